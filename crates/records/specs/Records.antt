-- The records of a hall file: 'a two-byte mark before each record; numbers are 8 bytes'. Definitions only.
use Rattle.std.specs.Prelude.{◌≡◌, cond, List, ℕ, ◌+◌, ◌*◌, ◌-◌, ◌≤◌, ltb, length, get_or, Some, None}
use Rattle.refusals.specs.declared.Refusal.{Refusal}
use Rattle.refusals.specs.declared.Refusal.TheVariants.{UnknownMark, Cut, CountTooLarge}
use Rattle.records.specs.declared.Kind.{Kind}
use Rattle.records.specs.declared.Kind.TheVariants.{Polynomial, Quadratic, Crank, Contact, Formula, Unknown}
use Rattle.records.specs.declared.Record.{Record}
use Rattle.records.specs.Marks.{kind_at}

-- the count byte of a PL record, the length byte of a TX record
abbrev pub count_at : List ℕ → ℕ → ℕ
count_at s at = get_or s (at + 2) 0

-- 'After 6, 7 or 8 reading ends'
abbrev pub ended_of : Kind → Refusal → List ℕ → Record
ended_of kind refusal s = record { kind = kind; refused = Some refusal; next = length s }

-- '7, fewer bytes than the record needs'; else it stands whole
unfoldable pub held_of : Kind → ℕ → List ℕ → ℕ → Record
held_of kind size s at = cond (ltb (length s - at) size) (ended_of kind Cut s) (record { kind = kind; refused = None; next = at + size })

-- a count byte, a tolerance, and as many entries of `size` bytes each as the count says; 'no count byte', and a count above `most`
unfoldable pub counted_of : Kind → ℕ → ℕ → List ℕ → ℕ → Record
unfolding held_of
counted_of kind size most s at =
    cond (ltb (length s - at) 3) (ended_of kind Cut s)
    (cond (ltb most (count_at s at)) (ended_of kind CountTooLarge s) (held_of kind (11 + size * count_at s at) s at))

-- 'PL: count byte 0 to 32, tolerance, that many coefficients'; '7, no count byte; 8, count above 32'
unfoldable pub polynomial_record : List ℕ → ℕ → Record
unfolding held_of
polynomial_record s at =
    cond (ltb (length s - at) 3) (ended_of Polynomial Cut s)
    (cond (ltb 32 (count_at s at)) (ended_of Polynomial CountTooLarge s) (held_of Polynomial (11 + 8 * count_at s at) s at))

-- 'A record TX holds a length byte 0 to 255, a tolerance and that much ASCII'; '7, no count byte'
unfoldable pub formula_record : List ℕ → ℕ → Record
unfolding held_of
formula_record s at = cond (ltb (length s - at) 3) (ended_of Formula Cut s) (held_of Formula (11 + count_at s at) s at)

-- a record whose whole mark was read; QD has five numbers, TG six, PC ten
unfoldable pub record_of : Kind → List ℕ → ℕ → Record
unfolding held_of polynomial_record formula_record
record_of Polynomial s at = polynomial_record s at
record_of Quadratic s at = held_of Quadratic 42 s at
record_of Crank s at = held_of Crank 50 s at
record_of Contact s at = held_of Contact 82 s at
record_of Formula s at = formula_record s at
record_of Unknown s at = ended_of Unknown UnknownMark s

-- '7, bytes end inside the mark'
unfoldable pub record_at : List ℕ → ℕ → Record
unfolding kind_at record_of
record_at s at = cond (ltb (length s - at) 2) (ended_of Unknown Cut s) (record_of (kind_at s at) s at)

-- ---- what contracts ask of records

-- a record of the kind stands whole at at
abbrev pub Whole : Kind → List ℕ → ℕ → Type 0
Whole Polynomial s at = (count_at s at ≤ 32) × (at + (11 + 8 * count_at s at) ≤ length s)
Whole Quadratic s at = at + 42 ≤ length s
Whole Crank s at = at + 50 ≤ length s
Whole Contact s at = at + 82 ≤ length s
Whole Formula s at = at + (11 + count_at s at) ≤ length s
Whole Unknown s at = Unit {0}

-- the record is refused, or stands whole at at
abbrev pub Sound : Record → List ℕ → ℕ → Type 0
Sound found s at = found.refused ≡ None → Whole found.kind s at
