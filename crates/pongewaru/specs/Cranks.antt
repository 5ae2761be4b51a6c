-- What the export for cranks stores. Definitions only.
use Rattle.std.specs.Prelude.{Bool, List, ◌∷◌, ℕ, Float, Result}
use Rattle.refusals.specs.declared.Refusal.{Refusal}
use Rattle.refusals.specs.Refusals.{outcome_of}
use Rattle.inquiry.specs.Inquiry.{place_of, list_in, is_question}
use Rattle.crank.specs.declared.CrankInquiry.{CrankInquiry}
use Rattle.crank.specs.declared.CrankShown.{CrankShown}
use Rattle.crank.specs.Crank.{crank_in, crank_asked_of, crank_replied_of, crank_after}
use Rattle.lent_bytes.specs.Numbers.{number}
use Rattle.pongewaru.specs.Inquiries.{each_reply, shown_numbers, seen_numbers}

abbrev pub next_crank : ℕ × CrankInquiry → Bool → ℕ × CrankInquiry
next_crank p reply = (outcome_of (crank_replied_of p.1 reply), crank_after p.1 reply)

-- each reply in turn; a refused one leaves the inquiry as it was
abbrev pub crank_fed_all : List ℕ → CrankInquiry → ℕ × CrankInquiry
crank_fed_all rs c = each_reply next_crank rs (0, c)

-- k, and then as for a list
unfoldable pub crank_numbers : ℕ × CrankInquiry → List Float
crank_numbers p =
    let a = crank_asked_of p.1 in
    number a.k ∷ shown_numbers p.0 (is_question a.asked) (place_of a.asked) (list_in a.asked) p.1.inquiry.systems

abbrev pub shown_after : List ℕ → Result CrankInquiry Refusal → List Float
shown_after rs s = crank_numbers (crank_fed_all rs (crank_in s))

-- the same of replies that were put in at once
abbrev pub crank_shown_numbers : CrankShown → ℕ → List Float
crank_shown_numbers s systems = number s.k ∷ seen_numbers s.seen systems
