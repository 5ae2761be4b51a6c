-- Request Two: what a root's kind has to do with the replies of its run.
use mathlib.Core.Path.{◌≡◌, refl, sym, ap, ◌∙◌, subst}
use mathlib.Core.Bool.{Bool, true, false, cond, ◌||◌, false≢true}
use mathlib.Core.List.{List, [], ◌∷◌, map, append_assoc}
use Prim.Native.Nat.{ℕ, zero, suc, ◌+◌, ◌≤◌, ◌<◌}
use native.Mathlib.Omega.{arith}
use borrow.Author.Tests.{eqb-true, eqb-false, ne_eqb}
use lib.Dec.{ltb, eqb}
use lib.ListN.{length, get_or, length-map}
use lib.Seq.{length-take-le}
use lib.IntN.{ℤ}
use lib.Ieee.{Float}
use Rattle.std.specs.Prelude.{Result, Ok, Err}
use Rattle.facts.specs.Cond.{either_way}
use Rattle.facts.specs.Lists.{AllOf, all_snoc}
use Rattle.angle.specs.declared.Sine.{Sine}
use Rattle.refusals.specs.declared.Refusal.{Refusal}
use Rattle.refusals.specs.Refusals.{number_of, outcome_of, and_then}
use Rattle.refusals.proofs.Numbers.{number_bounds}
use Rattle.float.specs.Literals.{zero64}
use Rattle.float.specs.Methods.{is_finite_of, max_of}
use Rattle.scaled.specs.declared.Scaled.{Scaled}
use Rattle.roots.specs.declared.RootKind.{RootKind}
use Rattle.roots.specs.declared.RootKind.TheVariants.{Crossing, Brush, Flat}
use Rattle.roots.specs.declared.RealRoot.{RealRoot}
use Rattle.roots.specs.Roots.{kind_of, root_by, root, list_of, roots_of, held, kept, pair_list_of}
use Rattle.roots.specs.Listed.{blank}
use Rattle.roots.proofs.Laws.{list_roots}
use Rattle.finish.specs.Finish.{Ordered, ordered_of, polished_at, polished_of, is_near_of, join_of, joined_from, joined_of, finish_of}
use Rattle.poly.specs.declared.Solved.{Solved}
use Rattle.factorize.specs.Factorize.{factorize_of}
use Rattle.poly.specs.Coefficients.{zeros_of, counted_of, refusal_of, poly_of}
use Rattle.poly.specs.Solve.{candidates_of, finished_of, solve_of, solved_in}
use Rattle.poly.specs.RealRoots.{unscaled_of, unscaled_all, answer_of, real_roots_of, roots_in}
use Rattle.poly.specs.Conditions.{Exactly}
use Rattle.asking.specs.Asking.{Asking, done, ask, Stage, asks, ended, answered, places_asked, walked, left_by}
use Rattle.asking.proofs.Feeding.{finish}
use Rattle.touching.specs.declared.Replies.{Replies}
use Rattle.touching.specs.Replies.{replies_of}
use Rattle.touching.specs.Walk.{RepliesFit}
use Rattle.inquiry.specs.declared.Inquiry.{Inquiry}
use Rattle.inquiry.specs.declared.Asked.{Asked}
use Rattle.inquiry.specs.Inquiry.{shown, list_in, is_question, seen_at, seen_of, asking}
use Rattle.inquiry.specs.Start.{real_roots_touching, real_roots_touching_of, places_touching_of, fresh_by, start_of, inquiry_in, given, shown_after_of}
use Rattle.inquiry.proofs.Sound.{sound_is, sound_holds}
use Rattle.inquiry.proofs.Fresh.{solved_asks, start_sound, start_number, start_asks}
use Rattle.inquiry.proofs.Loop.{refused_asks}
use Rattle.inquiry.proofs.Theorem.{has_seen}
use Rattle.trig_quartic.specs.declared.TrigEquation.{TrigEquation}
use Rattle.crank.specs.declared.CrankInquiry.{CrankInquiry}
use Rattle.crank.specs.Crank.{trig_quartic_of, solve_trig_of, crank_start_of, crank_in, crank_shown_of, crank_of, crank_roots_in}
use Rattle.crank.proofs.Front as front
use Rattle.crank.proofs.Answer.{answer_by}
use Rattle.contact.specs.declared.Path.{Path}
use Rattle.contact.specs.declared.Circle.{Circle}
use Rattle.contact.specs.Contact.{made_of, pin_contact_of}
use Rattle.contact.specs.Claims as contact
use Rattle.contact.proofs.Theorem.{contacts}
use Rattle.text.specs.Digits.{decimal}
use Rattle.listing.specs.Words.{letter_of}
use Rattle.listing.specs.Lines.{place_text, root_text}
use Rattle.demands.specs.Formed.{Formed, unasked, chains_formed, roots_formed, reply_in, unformed}
use Rattle.demands.specs.Example.{ascii}
use Rattle.demands.specs.Demands.{HasKind, KindsBy, NeverBrush, shown_in, crank_shown_in, Kinds}
use Rattle.demands.proofs.Formed.{numbered, or_true, some_yes, kinded, formed_so}
use Rattle.demands.proofs.Once.{formed_once}

-- whatever follows from two constructors that are the same
unlike : {A : Type 0} → zero ≡ suc zero → A
unlike e = absurd (omega (arith, e))

-- and from a place in an empty list
nowhere : {A : Type 0} {k : ℕ} → k < 0 → A
nowhere h = absurd (omega (arith, h))

-- ---- the three kinds
module _ (m : ℕ) where
  abbrev sort : Bool → Bool → RootKind
  sort w b = cond w Crossing (cond b Brush Flat)

  crossing_so : (b : Bool) → Exactly (kind_of m b ≡ Crossing) (m ≡ 1)
  unfolding kind_of
  crossing_so b = record { where_it_holds = λ e. rw e; only_there = go (eqb m 1) b refl }
    where
      go : (w b : Bool) → eqb m 1 ≡ w → sort w b ≡ Crossing → m ≡ 1
      go true b e h = eqb-true m 1 e
      go false true e h = cc
      go false false e h = cc

  -- a brush where c is true, flat where it is false
  other_so : (b c : Bool) → Exactly (kind_of m b ≡ cond c Brush Flat) ((m ≡ 1 → ⊥) × (b ≡ c))
  unfolding kind_of
  other_so b c = record { where_it_holds = λ h. rw (ne_eqb m 1 h.0, h.1); only_there = go (eqb m 1) b c refl }
    where
      go : (w b c : Bool) → eqb m 1 ≡ w → sort w b ≡ cond c Brush Flat → (m ≡ 1 → ⊥) × (b ≡ c)
      go false true true e h = (eqb-false m 1 e, refl)
      go false false false e h = (eqb-false m 1 e, refl)
      go false true false e h = unlike cc
      go false false true e h = unlike cc
      go true b true e h = unlike cc
      go true b false e h = unlike cc

-- ---- a yes among the questions
module _ (replies : List Bool) where
  abbrev reply : ℕ → Bool
  reply = reply_in replies

  abbrev Some : List ℕ → Type 0
  Some l = (k : ℕ) × (k < length l) × (reply (get_or l k 0) ≡ true)

  some_said_yes : (l : List ℕ) → some_yes reply l ≡ true → Some l
  some_said_yes [] h = unlike cc
  some_said_yes (j ∷ l) h = go (reply j) refl h (λ t. some_said_yes l t)
    where
      go : (b : Bool) → reply j ≡ b → (b || some_yes reply l) ≡ true → (some_yes reply l ≡ true → Some l) → Some (j ∷ l)
      go true e h rest = (0, omega arith, e)
      go false e h rest = let s = rest h in (suc s.0, omega (arith, s.1), s.2)

  yes_some : (l : List ℕ) (k : ℕ) → k < length l → reply (get_or l k 0) ≡ true → some_yes reply l ≡ true
  yes_some [] k h e = nowhere h
  yes_some (j ∷ l) zero h e = simp e
  yes_some (j ∷ l) (suc k) h e = rw (yes_some l k (omega arith) e) (or_true (reply j))

  not_yes : (l : List ℕ) → some_yes reply l ≡ false → Some l → ⊥
  not_yes l h s = false≢true (sym h ∙ yes_some l s.0 s.1 s.2)

  no_yes : (l : List ℕ) → (Some l → ⊥) → some_yes reply l ≡ false
  no_yes l h = go (some_yes reply l) refl
    where
      go : (b : Bool) → some_yes reply l ≡ b → b ≡ false
      go true e = absurd (h (some_said_yes l e))
      go false e = refl

  has_kind : (f : Formed) → HasKind replies f (kinded reply f)
  has_kind f =
      let m = f.multiplicity in
      let l = f.questions in
      let brush = other_so m (some_yes reply l) true in
      let flat = other_so m (some_yes reply l) false in
      record {
        place = refl;
        multiplicity = refl;
        crossing = crossing_so m (some_yes reply l);
        brush =
            record {
              where_it_holds = λ h. brush.where_it_holds (h.0, yes_some l h.1.0 h.1.1 h.1.2);
              only_there = λ h. let b = brush.only_there h in (b.0, some_said_yes l b.1);
            };
        flat =
            record {
              where_it_holds = λ h. flat.where_it_holds (h.0, no_yes l h.1);
              only_there = λ h. let b = flat.only_there h in (b.0, not_yes l b.1);
            };
      }

  at_place : (l : List Formed) (k : ℕ) → k < length l → get_or (map (kinded reply) l) k blank ≡ kinded reply (get_or l k unformed)
  at_place [] k h = nowhere h
  at_place (f ∷ l) zero h = refl
  at_place (f ∷ l) (suc k) h = at_place l k (omega arith)

-- ---- roots that no reply helped to form
abbrev Plain : RealRoot → Type 0
Plain r = r ≡ root r.value r.multiplicity

never_brush : (l : List RealRoot) → AllOf Plain l → NeverBrush l
never_brush (r ∷ l) plain zero h = subst (HasKind [] (unasked r)) (sym plain.0) (has_kind [] (unasked r))
never_brush (r ∷ l) plain (suc k) h = never_brush l plain.1 k (omega arith)
never_brush [] plain k h = nowhere h

plain_unscaled : (e : ℤ) (l : List RealRoot) → AllOf Plain (unscaled_all e l)
unfolding unscaled_all
plain_unscaled e [] = tt
plain_unscaled e (r ∷ l) = go (is_finite_of (unscaled_of e r.value)) (plain_unscaled e l)
  where
    x : RealRoot
    x = root (unscaled_of e r.value) r.multiplicity

    go : (b : Bool) → AllOf Plain (unscaled_all e l) → AllOf Plain (cond b (x ∷ unscaled_all e l) (unscaled_all e l))
    go true h = (refl, h)
    go false h = h

plain_list : (sine : Sine) (coeffs : List Float) (tol : Float) → NeverBrush (list_of (roots_in (real_roots_of sine coeffs tol)))
unfolding real_roots_of answer_of
plain_list sine coeffs tol = go (solve_of sine coeffs tol)
  where
    go : (r : Result Solved Refusal) → NeverBrush (list_of (roots_in (and_then r (λ s. Ok (answer_of s)))))
    go (Ok s) =
        let l = unscaled_all s.poly.e (list_of s.roots) in
        never_brush (list_of (roots_of l)) (subst (AllOf Plain) (sym (list_roots l)) (plain_unscaled s.poly.e (list_of s.roots)))
    go (Err refusal) = never_brush [] tt

-- ---- what `finish` gives
plain_kept : (out : List RealRoot) (r : RealRoot) → AllOf Plain out → Plain r → AllOf Plain (kept out r)
unfolding kept held
plain_kept out r h p =
    either_way (AllOf Plain) (is_finite_of r.value) (either_way (AllOf Plain) (ltb (length out) 4) (all_snoc Plain out r h p) h) h

plain_joined : (poly : Scaled) (tol : Float) (l out : List RealRoot) (a : RealRoot) → AllOf Plain out → Plain a → AllOf Plain l
    → AllOf Plain (joined_from poly tol out a l)
unfolding joined_from join_of
plain_joined poly tol [] out a h p all = plain_kept out a h p
plain_joined poly tol (b ∷ l) out a h p all =
    let near = is_near_of poly a.value b.value tol in
    plain_joined poly tol l (cond near out (kept out a)) (cond near (join_of a b) b) (either_way (AllOf Plain) near h (plain_kept out a h p))
    (either_way Plain near refl all.0) all.1

plain_polished : (n : ℕ) (poly : Scaled) (l : List Ordered) → AllOf Plain (polished_of n poly l)
unfolding polished_of polished_at
plain_polished n poly [] = tt
plain_polished n poly (o ∷ l) = (refl, plain_polished n poly l)

plain_runs : (poly : Scaled) (tol : Float) (l : List RealRoot) → AllOf Plain l → AllOf Plain (joined_of poly tol l)
unfolding joined_of
plain_runs poly tol [] all = tt
plain_runs poly tol (a ∷ l) all = plain_joined poly tol l [] a tt all.0 all.1

plain_finished : (poly : Scaled) (c : List RealRoot) (tol : Float) → AllOf Plain (list_of (roots_of (finish_of poly c tol)))
unfolding finish_of
plain_finished poly c tol =
    let polished = polished_of 4 poly (ordered_of c) in
    subst (AllOf Plain) (sym (list_roots (joined_of poly tol polished))) (plain_runs poly tol polished (plain_polished 4 poly (ordered_of c)))

plain_solved : (sine : Sine) (coeffs : List Float) (tol : Float) → AllOf Plain (list_of (solved_in (solve_of sine coeffs tol)).roots)
unfolding solve_of finished_of
plain_solved sine coeffs tol = go (counted_of coeffs)
  where
    go : (r : Result ℕ Refusal)
        → AllOf Plain (list_of (solved_in (and_then r (λ n. Ok (finished_of sine (poly_of coeffs) (zeros_of coeffs) (max_of tol zero64))))).roots)
    go (Ok n) =
        let poly = poly_of coeffs in
        let least = max_of tol zero64 in
        plain_finished poly (candidates_of poly (zeros_of coeffs) (factorize_of sine poly 0) least).0 least
    go (Err refusal) = tt

-- ---- replies in a list, read in their order
abbrev value_by : {A : Type 0} → A → Stage A → A
value_by d (asks x) = d
value_by d (ended a left) = a

numbered_walked : {A : Type 0} (reply : ℕ → Bool) (rs : List Bool) (n : ℕ) (t : Asking A) (a : A) (left : List Bool)
    → ((i : ℕ) → reply (n + i) ≡ get_or rs i false) → walked rs t ≡ ended a left
    → ((numbered reply n t).1 ≡ a) × ((numbered reply n t).0 + length left ≡ n + length rs)
unfolding numbered walked left_by
numbered_walked reply rs n (done b) a left h e = (ap (value_by b) e, ap (λ (l : List Bool). n + length l) (sym (ap left_by e)))
numbered_walked reply [] n (ask x k) a left h e = unlike cc
numbered_walked reply (r ∷ rs) n (ask x k) a left h e =
    subst (λ (b : Bool). ((numbered reply (n + 1) (k b)).1 ≡ a) × ((numbered reply (n + 1) (k b)).0 + length left ≡ n + suc (length rs)))
    (sym (h 0) ∙ ap reply (omega arith))
    (let rest = numbered_walked reply rs (n + 1) (k r) a left (λ i. ap reply (omega arith) ∙ h (suc i)) e in (rest.0, omega (arith, rest.1)))

module _ (sine : Sine) (replies : List Bool) (coeffs : List Float) (tol : Float) where
  abbrev solved : Solved
  solved = solved_in (solve_of sine coeffs tol)

  abbrev roots : List Formed
  roots = roots_formed (reply_in replies) solved

  -- the list is what is formed, with kinds
  list_formed : (l : List RealRoot) (left : List Bool) → walked replies (real_roots_touching sine coeffs tol) ≡ ended l left
      → (l ≡ map (kinded (reply_in replies)) roots) × ((chains_formed (reply_in replies) solved).0 ≤ length replies)
  list_formed l left e =
      let reply = reply_in replies in
      let t = asking (fresh_by solved) in
      let so = formed_so reply solved.poly solved.tol (list_of solved.roots) (pair_list_of solved.pairs) (plain_solved sine coeffs tol) in
      let run = numbered_walked reply replies 0 t l left (λ i. ap reply (omega arith)) (ap (walked replies) (solved_asks sine coeffs tol) ∙ e) in
      (sym run.0 ∙ ap (λ (u : ℕ × List RealRoot). u.1) so, omega (arith, run.1, ap (λ (u : ℕ × List RealRoot). u.0) so))

  kinds_by : (l : List RealRoot) (left : List Bool) → walked replies (real_roots_touching sine coeffs tol) ≡ ended l left → KindsBy sine replies coeffs tol l
  kinds_by l left e =
      let formed = list_formed l left e in
      let long : length l ≡ length roots = ap length formed.0 ∙ length-map roots (kinded (reply_in replies)) in
      record {
        length_is = long;
        kinds =
            λ k h.
            subst (HasKind replies (get_or roots k unformed))
            (sym (ap (λ (m : List RealRoot). get_or m k blank) formed.0 ∙ at_place replies roots k (omega (arith, h, long))))
            (has_kind replies (get_or roots k unformed));
        asked = formed.1;
        once = λ i. formed_once (reply_in replies) i solved.poly solved.tol (list_of solved.roots) (pair_list_of solved.pairs);
      }

-- ---- an inquiry with these replies: where nothing is asked, the list
seen_kinds : (sine : Sine) (replies : List Bool) (coeffs : List Float) (tol : Float) (s : Stage (List RealRoot))
    → walked replies (real_roots_touching sine coeffs tol) ≡ s → is_question (seen_at s).asked ≡ false
    → KindsBy sine replies coeffs tol (list_of (list_in (seen_at s).asked))
unfolding shown
seen_kinds sine replies coeffs tol (asks x) e h = unlike cc
seen_kinds sine replies coeffs tol (ended l left) e h = rw (list_roots l) (kinds_by sine replies coeffs tol l left e)

-- where nothing is asked from the start, as where it is refused, no root
nothing_kinds : (sine : Sine) (replies : List Bool) (coeffs : List Float) (tol : Float) → real_roots_touching sine coeffs tol ≡ done []
    → KindsBy sine replies coeffs tol []
unfolding walked
nothing_kinds sine replies coeffs tol e = kinds_by sine replies coeffs tol [] replies (ap (walked replies) e)

module _ (sine : Sine) (rs : Replies) (fits : RepliesFit rs) (coeffs : List Float) (tol : Float) where
  abbrev started : Inquiry
  started = inquiry_in (start_of sine coeffs tol)

  given_seen : seen_of (given started rs) ≡ seen_at (walked (replies_of rs) (real_roots_touching sine coeffs tol))
  given_seen =
      let s = sound_is started (start_sound sine coeffs tol) in
      has_seen (real_roots_touching sine coeffs tol) (given started rs) (replies_of rs) (record {
        asks_it = start_asks sine coeffs tol;
        has = refl;
        array = fits.0;
        count = sym (length-take-le rs.count rs.reply (omega (arith, fits.0, fits.1)));
        sound =
            sound_holds (given started rs)
            (record { degree = s.degree; replies = fits.1; roots = s.roots; pairs = s.pairs; counted = s.counted; total = s.total });
      })

  abbrev KindsOf : Asked → Type 0
  KindsOf shown = is_question shown ≡ false → KindsBy sine (replies_of rs) coeffs tol (list_of (list_in shown))

  given_kinds : (q : Inquiry) → q ≡ started → KindsOf (seen_of (given q rs)).asked
  given_kinds q is =
      let seen = ap (λ (p : Inquiry). seen_of (given p rs)) is ∙ given_seen in
      rw seen (seen_kinds sine (replies_of rs) coeffs tol (walked (replies_of rs) (real_roots_touching sine coeffs tol)) refl)

  inquiry_kinds : KindsOf (shown_in (shown_after_of sine coeffs tol rs))
  unfolding shown_after_of
  inquiry_kinds = go (start_of sine coeffs tol) refl
    where
      go : (r : Result Inquiry Refusal) → start_of sine coeffs tol ≡ r → KindsOf (shown_in (and_then r (λ q. Ok (seen_of (given q rs)))))
      go (Ok q) e = given_kinds q (ap inquiry_in (sym e))
      go (Err refusal) e =
          let n : number_of refusal ≡ refusal_of coeffs = ap outcome_of (sym e) ∙ start_number sine coeffs tol in
          let some = ne_eqb (refusal_of coeffs) 0 (λ z. omega (arith, z, n, number_bounds refusal)) in
          λ h. nothing_kinds sine (replies_of rs) coeffs tol (refused_asks sine coeffs tol some)

crank_inquiry_kinds : (sine : Sine) (rs : Replies) (fits : RepliesFit rs) (confusion : Float) (trig : TrigEquation)
    → KindsOf sine rs fits (trig_quartic_of trig) confusion (crank_shown_in (crank_shown_of sine confusion trig rs))
unfolding crank_shown_of
crank_inquiry_kinds sine rs fits confusion trig = go (crank_start_of sine confusion trig) refl
  where
    go : (r : Result CrankInquiry Refusal) → crank_start_of sine confusion trig ≡ r
        → KindsOf sine rs fits (trig_quartic_of trig) confusion
        (crank_shown_in (and_then r (λ c. Ok (record { k = c.k; seen = seen_of (given c.inquiry rs) }))))
    go (Ok c) e =
        given_kinds sine rs fits (trig_quartic_of trig) confusion c.inquiry
        (ap (λ (r : Result CrankInquiry Refusal). (crank_in r).inquiry) (sym e) ∙ front.same_inquiry trig sine confusion)
    go (Err refusal) e =
        let n : outcome_of (crank_start_of sine confusion trig) ≡ number_of refusal = ap outcome_of e in
        let none = front.refused_nothing trig sine confusion (omega (arith, n, number_bounds refusal)) in
        λ h. nothing_kinds sine (replies_of rs) (trig_quartic_of trig) confusion none

-- ---- every question replied no
plain_no : (places : List Float) (l : List ℕ) → some_yes (reply_in (map (λ (x : Float). false) places)) l ≡ false
plain_no places [] = refl
plain_no places (i ∷ l) = rw (all_said_no places i) (plain_no places l)
  where
    all_said_no : (places : List Float) (i : ℕ) → reply_in (map (λ (x : Float). false) places) i ≡ false
    all_said_no [] i = refl
    all_said_no (x ∷ p) zero = refl
    all_said_no (x ∷ p) (suc i) = all_said_no p i

plain_kinded : (places : List Float) (l : List Formed) → AllOf Plain (map (kinded (reply_in (map (λ (x : Float). false) places))) l)
plain_kinded places [] = tt
plain_kinded places (f ∷ l) =
    (ap (λ (b : Bool). root_by b f.value f.multiplicity) (plain_no places f.questions), plain_kinded places l)

never_yes : (sine : Sine) (coeffs : List Float) (tol : Float) → AllOf Plain (real_roots_touching_of sine (λ x. false) coeffs tol)
never_yes sine coeffs tol =
    let t = real_roots_touching sine coeffs tol in
    let places = places_asked (λ x. false) t in
    let replies = map (λ (x : Float). false) places in
    subst (AllOf Plain) (sym (list_formed sine replies coeffs tol (answered (λ x. false) t) [] (finish (λ x. false) t)).0)
    (plain_kinded places (roots_formed (reply_in replies) (solved_in (solve_of sine coeffs tol))))

crank_kinds : (sine : Sine) (confusion : Float) (trig : TrigEquation) → NeverBrush (list_of (crank_roots_in (crank_of sine confusion trig)))
crank_kinds sine confusion trig =
    let l = (solve_trig_of sine (λ k u. false) confusion trig).1 in
    answer_by sine confusion trig (λ a. NeverBrush (list_of (crank_roots_in a)))
    (λ z. never_brush (list_of (roots_of l)) (subst (AllOf Plain) (sym (list_roots l)) (never_yes sine (trig_quartic_of trig) confusion)))
    (λ refusal e. never_brush [] tt)

-- ---- fed by a function; a contact
fed_kinds : (sine : Sine) (touches : Float → Bool) (coeffs : List Float) (tol : Float)
    → KindsBy sine (map touches (places_touching_of sine touches coeffs tol)) coeffs tol (real_roots_touching_of sine touches coeffs tol)
fed_kinds sine touches coeffs tol =
    let t = real_roots_touching sine coeffs tol in
    kinds_by sine (map touches (places_asked touches t)) coeffs tol (answered touches t) [] (finish touches t)

contact_kinds : (sine : Sine) (confusion : Float) (path : Path) (circle : Circle) → outcome_of (pin_contact_of sine confusion path circle) ≡ 0
    → (let touches = contact.replies_of confusion path circle in
    KindsBy sine (map touches (places_touching_of sine touches (made_of path circle) confusion)) (made_of path circle) confusion
    (list_of (roots_in (pin_contact_of sine confusion path circle))))
contact_kinds sine confusion path circle e =
    let touches = contact.replies_of confusion path circle in
    rw ((contacts sine confusion path circle).list e, list_roots (real_roots_touching_of sine touches (made_of path circle) confusion))
    (fed_kinds sine touches (made_of path circle) confusion)

pub kinds : (sine : Sine) → Kinds sine
unfolding root_text ascii
kinds sine = record {
  list = plain_list sine;
  fed = fed_kinds sine;
  inquiry = λ rs coeffs tol fits. inquiry_kinds sine rs fits coeffs tol;
  crank_inquiry = λ rs confusion trig fits. crank_inquiry_kinds sine rs fits confusion trig;
  crank = crank_kinds sine;
  contact = contact_kinds sine;
  line = λ r. sym (append_assoc (place_text r.value) (32 ∷ decimal r.multiplicity) (32 ∷ letter_of r.kind ∷ []));
  letters = refl;
}
