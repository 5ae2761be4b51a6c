-- Each line is read by its words, and says the roots that its record lists.
use mathlib.Core.Path.{◌≡◌, refl, sym, ap, subst, ◌∙◌}
use mathlib.Core.Bool.{false}
use mathlib.Core.List.{List, [], ◌∷◌, ◌++◌, append-nil, append_assoc, flat_map}
use Prim.Native.Nat.{ℕ, suc, ◌<◌}
use native.Mathlib.Omega.{arith}
use borrow.Author.Tests.{ne_eqb}
use lib.ListN.{length, get_or, drop}
use Rattle.std.specs.Prelude.{Option, Some, None, Result, Ok, Err}
use lib.Ieee.{Float, binary64, to_bits}
use Rattle.facts.specs.Cond.{either_way}
use Rattle.angle.specs.declared.Sine.{Sine}
use Rattle.text.specs.Digits.{hex_digits, decimal}
use Rattle.roots.specs.declared.RootKind.{RootKind}
use Rattle.roots.specs.declared.RootKind.TheVariants.{Crossing, Brush, Flat}
use Rattle.roots.specs.declared.RealRoot.{RealRoot}
use Rattle.roots.specs.declared.Roots.{Roots}
use Rattle.roots.specs.Roots.{list_of, no_roots}
use Rattle.roots.specs.Listed.{Fits, multiplicities}
use Rattle.roots.proofs.Laws.{length_list}
use Rattle.refusals.specs.declared.Refusal.{Refusal}
use Rattle.refusals.specs.Refusals.{number_of}
use Rattle.poly.specs.RealRoots.{roots_in}
use Rattle.solution.specs.declared.QuadraticSolution.{QuadraticSolution}
use Rattle.solution.specs.declared.QuadraticSolution.TheVariants.{Two, One, Linear, Degenerate, Empty}
use Rattle.crank.specs.declared.CrankAnswer.{CrankAnswer}
use Rattle.crank.specs.Crank.{crank_roots_in}
use Rattle.records.specs.declared.Kind.{Kind}
use Rattle.records.specs.declared.Kind.TheVariants.{Polynomial, Quadratic, Crank, Contact, Formula, Unknown}
use Rattle.records.specs.Marks.{mark_of}
use Rattle.records.specs.declared.Record.{Record}
use Rattle.listing.specs.Words.{refused, ok, two, one, linear, degenerate, empty, letter_of}
use Rattle.listing.specs.Answers.{polynomial_at, quadratic_at, crank_at, contact_at, formula_at}
use Rattle.listing.specs.Lines.{place_text, root_text, roots_text, refused_text, or_refused, polynomial_text, solution_text, quadratic_text, crank_text}
use Rattle.listing.specs.Lines.{answer_text, words_of, head_of, line_of}
use Rattle.listing.specs.Totals.{listed_at, or_none, record_total}
use Rattle.listing.proofs.Asked.{listed_prints}
use Rattle.demands.specs.Example.{ascii}
use Rattle.demands.specs.ByHand.{begun_by, cut_at, lines, words, same, like_list, like_crank, root_words, roots_said, multiplicities_said}
use Rattle.demands.specs.ByHand.{word, line_roots, line_multiplicities}
use Rattle.demands.specs.Demands.{record_line}
use Rattle.demands.proofs.Parted.{Above, part_then, all_under, above_append, above_so, Digits, digits_read}
use Rattle.demands.proofs.Parted.{Word, word_last, digits_of, decimal_begun, decimal_word, hex_above}

-- ---- the words of roots
root_list : List RealRoot → List (List ℕ)
root_list [] = []
root_list (r ∷ l) = hex_digits 16 (to_bits binary64 r.value) ∷ decimal r.multiplicity ∷ (letter_of r.kind ∷ []) ∷ root_list l

letter_word : (kind : RootKind) → Word (letter_of kind ∷ [])
letter_word Crossing = record { first = 99; rest = []; is = refl; above = above_so 32 (99 ∷ []) refl }
letter_word Brush = record { first = 98; rest = []; is = refl; above = above_so 32 (98 ∷ []) refl }
letter_word Flat = record { first = 102; rest = []; is = refl; above = above_so 32 (102 ∷ []) refl }

-- a root's text, and t behind it
root_before : (r : RealRoot) (t : List ℕ)
    → root_text r ++ t ≡ 32 ∷ hex_digits 16 (to_bits binary64 r.value) ++ (32 ∷ decimal r.multiplicity ++ (32 ∷ letter_of r.kind ∷ t))
unfolding root_text place_text
root_before r t =
    let place = hex_digits 16 (to_bits binary64 r.value) in
    let times = decimal r.multiplicity in
    ap (λ (u : List ℕ). 32 ∷ u)
    (append_assoc place (32 ∷ times ++ (32 ∷ letter_of r.kind ∷ [])) t
    ∙ ap (λ (u : List ℕ). place ++ (32 ∷ u)) (append_assoc times (32 ∷ letter_of r.kind ∷ []) t))

roots_parted : (l : List RealRoot) (w : List ℕ) → Word w → words (w ++ flat_map root_text l) ≡ w ∷ root_list l
unfolding flat_map root_list
roots_parted [] w h = ap words (append-nil w) ∙ word_last w h
roots_parted (r ∷ l) w h =
    let place = hex_digits 16 (to_bits binary64 r.value) in
    let times = decimal r.multiplicity in
    let letter = letter_of r.kind ∷ [] in
    let more = letter ++ flat_map root_text l in
    ap (λ (u : List ℕ). words (w ++ u)) (root_before r (flat_map root_text l))
    ∙ part_then 32 w (place ++ (32 ∷ times ++ (32 ∷ more))) h.above
    ∙ ap (λ (ws : List (List ℕ)). w ∷ ws)
    (part_then 32 place (times ++ (32 ∷ more)) (hex_above 16 (to_bits binary64 r.value))
    ∙ ap (λ (ws : List (List ℕ)). place ∷ ws)
    (part_then 32 times more (decimal_word r.multiplicity).above
    ∙ ap (λ (ws : List (List ℕ)). times ∷ ws) (roots_parted l letter (letter_word r.kind))))

list_said : (l : List RealRoot) → roots_said (root_list l) ≡ length l
unfolding root_list roots_said
list_said [] = refl
list_said (r ∷ l) = ap suc (list_said l)

list_sum : (l : List RealRoot) → multiplicities_said (root_list l) ≡ multiplicities l
unfolding root_list multiplicities_said
list_sum [] = refl
list_sum (r ∷ l) = omega (arith, digits_read r.multiplicity, list_sum l)

-- ---- what stands behind a mark: no line end, and these roots
pub record Says (kind : Kind) (t : List ℕ) (r : Roots) : Type 0 where
  pub plain : Above 10 t
  pub roots : (n : List ℕ) → roots_said (root_words (n ∷ mark_of kind ∷ words t)) ≡ r.len
  pub sum : (n : List ℕ) → multiplicities_said (root_words (n ∷ mark_of kind ∷ words t)) ≡ multiplicities (list_of r)

says_none : (kind : Kind) (t : List ℕ) → Above 10 t → ((n : List ℕ) → root_words (n ∷ mark_of kind ∷ words t) ≡ []) → Says kind t no_roots
unfolding roots_said multiplicities_said
says_none kind t plain e =
    record { plain = plain; roots = λ n. ap roots_said (e n); sum = λ n. ap multiplicities_said (e n) }

says_list : (kind : Kind) (t : List ℕ) (r : Roots) → Above 10 t → ((n : List ℕ) → root_words (n ∷ mark_of kind ∷ words t) ≡ root_list (list_of r))
    → Fits r → Says kind t r
says_list kind t r plain e fits =
    record {
      plain = plain;
      roots = λ n. ap roots_said (e n) ∙ list_said (list_of r) ∙ length_list r fits;
      sum = λ n. ap multiplicities_said (e n) ∙ list_sum (list_of r);
    }

pub digits_plain : (n : ℕ) → Above 10 (decimal n)
digits_plain n = all_under (omega arith) (decimal n) (decimal_word n).above

place_plain : (x : Float) → Above 10 (place_text x)
unfolding place_text
place_plain x = (omega arith, all_under (omega arith) (hex_digits 16 (to_bits binary64 x)) (hex_above 16 (to_bits binary64 x)))

flat_plain : (l : List RealRoot) → Above 10 (flat_map root_text l)
unfolding flat_map root_text
flat_plain [] = tt
flat_plain (r ∷ l) =
    above_append 10 (root_text r) (flat_map root_text l)
    (above_append 10 (place_text r.value) (32 ∷ decimal r.multiplicity ++ (32 ∷ letter_of r.kind ∷ [])) (place_plain r.value) (
      omega arith,
      above_append 10 (decimal r.multiplicity) (32 ∷ letter_of r.kind ∷ []) (digits_plain r.multiplicity)
          (omega arith, all_under (omega arith) (letter_of r.kind ∷ []) (letter_word r.kind).above),
    ))
    (flat_plain l)

refused_plain : (n : ℕ) → Above 10 (refused_text n)
unfolding refused_text
refused_plain n = above_append 10 refused (decimal n) (above_so 10 refused refl) (digits_plain n)

-- 'a refused one adding only its line'
says_refused : (kind : Kind) (n : ℕ) → Says kind (refused_text n) no_roots
unfolding refused_text cut_at begun_by root_words like_list like_crank same ascii
says_refused kind n = says_none kind (refused_text n) (refused_plain n) (λ number. refl)

-- how many roots, and each of them
roots_plain : (r : Roots) → Above 10 (roots_text r)
unfolding roots_text
roots_plain r = above_append 10 (decimal r.len) (flat_map root_text (list_of r)) (digits_plain r.len) (flat_plain (list_of r))

roots_words : (r : Roots) → words (roots_text r) ≡ decimal r.len ∷ root_list (list_of r)
unfolding roots_text
roots_words r = roots_parted (list_of r) (decimal r.len) (decimal_word r.len)

abbrev ok_word : List ℕ
ok_word = 111 ∷ 107 ∷ []

says_polynomial : (kind : Kind) → ((n : List ℕ) (ws : List (List ℕ)) → root_words (n ∷ mark_of kind ∷ ok_word ∷ ws) ≡ drop 1 ws)
    → (a : Result Roots Refusal) → Fits (roots_in a) → Says kind (polynomial_text a) (roots_in a)
unfolding polynomial_text cut_at begun_by
says_polynomial kind e (Ok r) fits =
    says_list kind (ok ++ roots_text r) r (above_append 10 ok (roots_text r) (above_so 10 ok refl) (roots_plain r))
    (λ n. ap (λ (ws : List (List ℕ)). root_words (n ∷ mark_of kind ∷ ok_word ∷ ws)) (roots_words r) ∙ e n (decimal r.len ∷ root_list (list_of r))) fits
says_polynomial kind e (Err refusal) fits = says_refused kind (number_of refusal)

says_crank : (a : Result CrankAnswer Refusal) → Fits (crank_roots_in a) → Says Crank (crank_text a) (crank_roots_in a)
unfolding crank_text cut_at begun_by root_words like_list like_crank same ascii
says_crank (Ok a) fits =
    let t = decimal a.k ++ (32 ∷ roots_text a.roots) in
    says_list Crank (ok ++ t) a.roots
    (above_append 10 ok t (above_so 10 ok refl) (above_append 10 (decimal a.k) (32 ∷ roots_text a.roots) (digits_plain a.k) (omega arith, roots_plain a.roots)))
    (λ n. ap (λ (ws : List (List ℕ)). root_words (n ∷ mark_of Crank ∷ ok_word ∷ ws))
    (part_then 32 (decimal a.k) (roots_text a.roots) (decimal_word a.k).above ∙ ap (λ (ws : List (List ℕ)). decimal a.k ∷ ws) (roots_words a.roots)))
    fits
says_crank (Err refusal) fits = says_refused Crank (number_of refusal)

-- places are no roots
none_on_quadratic : (n : List ℕ) (ws : List (List ℕ)) → root_words (n ∷ mark_of Quadratic ∷ ws) ≡ []
unfolding root_words like_list like_crank same ascii
none_on_quadratic n [] = refl
none_on_quadratic n (w ∷ ws) = either_way (λ (l : List (List ℕ)). l ≡ []) (same w (ascii "ok")) refl refl

solution_plain : (s : QuadraticSolution) → Above 10 (solution_text s)
unfolding solution_text
solution_plain (Two x y) =
    above_append 10 two (place_text x ++ place_text y) (above_so 10 two refl) (above_append 10 (place_text x) (place_text y) (place_plain x) (place_plain y))
solution_plain (One x) = above_append 10 one (place_text x) (above_so 10 one refl) (place_plain x)
solution_plain (Linear x) = above_append 10 linear (place_text x) (above_so 10 linear refl) (place_plain x)
solution_plain Degenerate = above_so 10 degenerate refl
solution_plain Empty = above_so 10 empty refl

says_quadratic : (a : Result QuadraticSolution Refusal) → Says Quadratic (quadratic_text a) no_roots
unfolding quadratic_text
says_quadratic (Ok s) = says_none Quadratic (solution_text s) (solution_plain s) (λ n. none_on_quadratic n (words (solution_text s)))
says_quadratic (Err refusal) = says_refused Quadratic (number_of refusal)

-- ---- a record's line
says_at : (sine : Sine) (kind : Kind) (s : List ℕ) (at : ℕ) → Says kind (answer_text sine kind s at) (listed_at sine kind s at)
unfolding answer_text listed_at cut_at root_words like_list like_crank same ascii
says_at sine Polynomial s at = says_polynomial Polynomial (λ n ws. refl) (polynomial_at sine s at) (listed_prints sine s at Polynomial).fits
says_at sine Quadratic s at = says_quadratic (quadratic_at s at)
says_at sine Crank s at = says_crank (crank_at sine s at) (listed_prints sine s at Crank).fits
says_at sine Contact s at = says_polynomial Contact (λ n ws. refl) (contact_at sine s at) (listed_prints sine s at Contact).fits
says_at sine Formula s at = says_polynomial Formula (λ n ws. refl) (formula_at sine s at) (listed_prints sine s at Formula).fits
says_at sine Unknown s at = says_none Unknown [] tt (λ n. refl)

says_words : (sine : Sine) (s : List ℕ) (at : ℕ) (found : Record)
    → Says found.kind (words_of sine s at found) (or_none found.refused (listed_at sine found.kind s at))
unfolding words_of
says_words sine s at found = go found.refused
  where
    go : (o : Option Refusal) → Says found.kind (or_refused o (answer_text sine found.kind s at)) (or_none o (listed_at sine found.kind s at))
    go None = says_at sine found.kind s at
    go (Some refusal) = says_refused found.kind (number_of refusal)

mark_above : (kind : Kind) → Above 32 (mark_of kind)
mark_above Polynomial = above_so 32 (mark_of Polynomial) refl
mark_above Quadratic = above_so 32 (mark_of Quadratic) refl
mark_above Crank = above_so 32 (mark_of Crank) refl
mark_above Contact = above_so 32 (mark_of Contact) refl
mark_above Formula = above_so 32 (mark_of Formula) refl
mark_above Unknown = above_so 32 (mark_of Unknown) refl

-- a line says these roots, and is no total
pub record Told (line : List ℕ) (roots sum : ℕ) : Type 0 where
  pub roots_are : line_roots line ≡ roots
  pub sum_is : line_multiplicities line ≡ sum
  pub not_a_total : same (word 0 line) (ascii "T") ≡ false

not_T : (n : ℕ) → same (decimal n) (ascii "T") ≡ false
unfolding same ascii
not_T n =
    let b = decimal_begun n in
    let low : b.0 < 58 = (subst Digits b.2 (digits_of n)).0.1 in
    ap (λ (w : List ℕ). same w (84 ∷ [])) b.2 ∙ simp (ne_eqb b.0 84 (λ e. omega (arith, e, low)))

module _ (sine : Sine) (n : ℕ) (s : List ℕ) (at : ℕ) (found : Record) where
  pub line_words : words (record_line sine n s at found) ≡ decimal n ∷ mark_of found.kind ∷ words (words_of sine s at found)
  unfolding head_of
  line_words =
      let t = words_of sine s at found in
      let mark = mark_of found.kind in
      ap words (append_assoc (decimal n) (32 ∷ mark ++ (32 ∷ [])) t ∙ ap (λ (u : List ℕ). decimal n ++ (32 ∷ u)) (append_assoc mark (32 ∷ []) t))
      ∙ part_then 32 (decimal n) (mark ++ (32 ∷ t)) (decimal_word n).above
      ∙ ap (λ (ws : List (List ℕ)). decimal n ∷ ws) (part_then 32 mark t (mark_above found.kind))

  line_plain : Above 10 (record_line sine n s at found)
  unfolding head_of
  line_plain =
      let mark = mark_of found.kind in
      above_append 10 (head_of n found.kind) (words_of sine s at found)
      (above_append 10 (decimal n) (32 ∷ mark ++ (32 ∷ [])) (digits_plain n)
      (omega arith, above_append 10 mark (32 ∷ []) (all_under (omega arith) mark (mark_above found.kind)) (omega arith, tt)))
      (says_words sine s at found).plain

  pub line_told : let t = record_total sine s at found in Told (record_line sine n s at found) t.roots t.multiplicities
  unfolding record_total
  line_told =
      let says = says_words sine s at found in record {
        roots_are = ap (λ (ws : List (List ℕ)). roots_said (root_words ws)) line_words ∙ says.roots (decimal n);
        sum_is = ap (λ (ws : List (List ℕ)). multiplicities_said (root_words ws)) line_words ∙ says.sum (decimal n);
        not_a_total = ap (λ (ws : List (List ℕ)). same (get_or ws 0 []) (ascii "T")) line_words ∙ not_T n;
      }

  pub line_parted : (t : List ℕ) → lines (line_of sine n s at found ++ t) ≡ record_line sine n s at found ∷ lines t
  unfolding line_of
  line_parted t =
      let head = head_of n found.kind in
      let w = words_of sine s at found in
      ap lines (append_assoc head (w ++ (10 ∷ [])) t ∙ ap (λ (u : List ℕ). head ++ u) (append_assoc w (10 ∷ []) t) ∙ sym (append_assoc head w (10 ∷ t)))
      ∙ part_then 10 (head ++ w) t line_plain
