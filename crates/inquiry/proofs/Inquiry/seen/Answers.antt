-- `seen` is its definition: by whether the inquiry is sound.
use mathlib.Core.Path.{sym, ◌∙◌}
use Rattle.facts.specs.Cond.{if_taken, if_left}
use Rattle.facts.specs.Lists.{length_mapped}
use Rattle.inquiry.specs.Inquiry.{seen_of}
use Rattle.inquiry.proofs.Sound.{sound_is, sound_held}
use borrow.Author.Rules.{rules}
use Rattle.inquiry.proofs.Inquiry.seen.Goals as goal

pub invariant_of-walker : goal.invariant_of-walker
invariant_of-walker c =
    let s = sound_is c.args.self (sym c.is_sound.ensures ∙ c.if-is_sound.true) in
    record { degree = s.degree; fits = ((let h = c.well_formed.0.1.1.1.1.1.1.1.0 in search (rules, length_mapped)), s.replies) }

pub walk_all-requires : goal.walk_all-requires
walk_all-requires c =
    sound_held c.args.self (sym c.is_sound.ensures ∙ c.if-is_sound.true)
    (let h = c.well_formed.0.1.1.1.1.0 in search (rules, length_mapped))
    (let h = c.well_formed.0.1.1.1.1.1.0 in search (rules, length_mapped))

pub returns-then-is_sound : goal.returns-then-is_sound
unfolding seen_of
returns-then-is_sound c = if_taken _ _ (sym c.is_sound.ensures ∙ c.if-is_sound.true) c.walk_all.ensures

pub returns : goal.returns
unfolding seen_of
returns c = if_left _ _ (sym c.is_sound.ensures ∙ c.if-is_sound.false) c.nothing.ensures
