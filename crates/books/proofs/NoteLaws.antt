-- Laws of notes, all of them but those of joining (specs/Joined): what a change of their representation must prove anew. Notes are two sets, and
-- compared so (`notes-decided`), and a note of joined notes is in one side; a tablet's own notes stand at their places among all, and are those
-- that it owns.
use Prim.Native.Nat.{ℕ, ◌+◌, ◌*◌, ◌/◌, ◌%◌, ◌^◌, ◌≤◌, ◌<◌}
use mathlib.Core.Bool.{Bool, true, false, true≢false}
use mathlib.Core.Path.{◌≡◌, refl, sym, ap, ap₂, ◌∙◌}
use mathlib.Core.Logic.{◌⊎◌, ⊎_elim}
use native.Mathlib.Nat.{lt_irrefl, mod-eq_of_lt, mod-lt, div-eq_of_lt, mul-mod_left, mul-div_cancel, mul_assoc}
use native.Mathlib.Omega.{arith}
use lib.Dec.{ltb, eqb}
use lib.Pow.{shl_exact, shl-shr, shr-shr, pow-add, pow_pos}
use borrow.Author.Tests.{lt-ltb, le-ltb, ltb-true, ltb-false, eq-eqb, ne_eqb, eqb-true, eqb-false}
use Rattle.sets.specs.Choice.{pick}
use Rattle.sets.specs.Sets.{digit, has, union, inside}
use Rattle.sets.proofs.SetLaws.{has-digit, digit-has, has-inside, has-union, union-has, digit_low, digit-high}
use Rattle.sets.proofs.Single.{none_in_empty, below-width, in_moved}
use Rattle.sets.proofs.BoundedLaws.{both-on, pick_true, pick-false}
use Rattle.sets.proofs.Parts.{Decides, numbers-decided, parts-decided}
use Rattle.books.specs.declared.Notes.{Notes}
pub use Rattle.books.specs.Joined.{notes-joined}
use Rattle.books.specs.Statements.{InWords}
use Rattle.books.specs.Books.{owner, notes_part, has_note, notes_of, no_notes, own_notes, notes_inside, join_notes, same_notes}

-- ---- Equality

pub notes-decided : Decides same_notes
notes-decided =
    parts-decided (λ (n : Notes). n.low) (λ (n : Notes). n.high) (λ (a b : ℕ). record { low = a; high = b }) (λ n. refl) numbers-decided numbers-decided

-- ---- Parts

pub part-past : (notes : Notes) (k : ℕ) → 1 < k → 0 ≡ notes_part notes k
part-past notes k h =
    pick-false notes.high 0 (ne_eqb k 1 (λ e. lt_irrefl 1 (omega arith)))
    ∙ pick-false notes.low (pick (eqb k 1) notes.high 0) (ne_eqb k 0 (λ e. lt_irrefl 1 (omega arith)))

-- ---- Single notes

part-joined : (k : ℕ) (a b : Notes) → notes_part (join_notes a b) k ≡ union (notes_part a k) (notes_part b k)
part-joined k a b = go (eqb k 0) (eqb k 1)
  where
    go : (s t : Bool) → pick s (union a.low b.low) (pick t (union a.high b.high) 0)
        ≡ union (pick s a.low (pick t a.high 0)) (pick s b.low (pick t b.high 0))
    go true t = refl
    go false true = refl
    go false false = refl

pub note-in-join : (note : ℕ) (a b : Notes) → has_note note (join_notes a b) ≡ true → (has_note note a ≡ true) ⊎ (has_note note b ≡ true)
note-in-join note a b h =
    has-union (note % 64) (notes_part a (note / 64)) (notes_part b (note / 64)) (sym (ap (has (note % 64)) (part-joined (note / 64) a b)) ∙ h)

pub note-stays : (note : ℕ) (a b : Notes) → has_note note a ≡ true → has_note note (join_notes a b) ≡ true
note-stays note a b h =
    ap (has (note % 64)) (part-joined (note / 64) a b) ∙ union-has (note % 64) (notes_part a (note / 64)) (notes_part b (note / 64)) h

-- "note n having weight 2^n": a note is among a set's notes where it is in the set
note-digit : (set note : ℕ) → note < 128 → digit (note % 64) (notes_part (notes_of set) (note / 64)) ≡ digit note set
note-digit set note l = go (eqb (note / 64) 0) refl
  where
    go : (t : Bool) → eqb (note / 64) 0 ≡ t → digit (note % 64) (pick t (set % 2 ^ 64) (pick (eqb (note / 64) 1) (set / 2 ^ 64) 0)) ≡ digit note set
    go true e =
        let low : note % 64 ≡ note = omega (arith, eqb-true (note / 64) 0 e) in
        ap (λ (n : ℕ). digit n (set % 2 ^ 64)) low ∙ digit_low note 64 set (omega (arith, eqb-true (note / 64) 0 e))
    go false e =
        let one : note / 64 ≡ 1 = omega (arith, eqb-false (note / 64) 0 e) in
        let high : 64 + note % 64 ≡ note = omega arith in
        ap (digit (note % 64)) (sym (pick_true (set / 2 ^ 64) 0 (eq-eqb (note / 64) 1 one)))
        ∙ ap (λ (n : ℕ). n % 2) (shr-shr set 64 (note % 64))
        ∙ ap (λ (n : ℕ). digit n set) high

-- "a book holds 128"
note-past : (notes : Notes) (note : ℕ) → 128 ≤ note → digit (note % 64) (notes_part notes (note / 64)) ≡ 0
note-past notes note h =
    let past : 1 < note / 64 = omega arith in
    ap (digit (note % 64)) (sym (part-past notes (note / 64) past)) ∙ digit-high 0 (note % 64) 0 (omega arith) (omega arith)

in-set : (set note : ℕ) → has_note note (notes_of set) ≡ true → digit note set ≡ 1
in-set set note h = go (ltb note 128) refl (has-digit (note % 64) (notes_part (notes_of set) (note / 64)) h)
  where
    go : (t : Bool) → ltb note 128 ≡ t → digit (note % 64) (notes_part (notes_of set) (note / 64)) ≡ 1 → digit note set ≡ 1
    go true e i = sym (note-digit set note (ltb-true note 128 e)) ∙ i
    go false e i = absurd (lt_irrefl 0 (omega (arith, i, note-past (notes_of set) note (ltb-false note 128 e))))

pub set-notes : (set note : ℕ) → set < 2 ^ 128 → has_note note (notes_of set) ≡ has note set
set-notes set note l = go (ltb note 128) refl
  where
    go : (t : Bool) → ltb note 128 ≡ t → has_note note (notes_of set) ≡ has note set
    go true e = ap (λ (n : ℕ). eqb n 1) (note-digit set note (ltb-true note 128 e))
    go false e =
        let past = ltb-false note 128 e in
        ap (λ (n : ℕ). eqb n 1) (note-past (notes_of set) note past ∙ sym (digit-high 128 note set l past))

pub note-joined : (note : ℕ) (a b : Notes) → has_note note (join_notes a b) ≡ pick (has_note note a) true (has_note note b)
note-joined note a b = go (has_note note a) refl (has_note note b) refl (has_note note (join_notes a b)) refl
  where
    go : (s : Bool) → has_note note a ≡ s → (t : Bool) → has_note note b ≡ t → (u : Bool) → has_note note (join_notes a b) ≡ u → u ≡ pick s true t
    go true e t f u g = sym g ∙ note-stays note a b e
    go false e true f u g = sym g ∙ ap (has_note note) (notes-joined.comm a b) ∙ note-stays note b a f
    go false e false f true g =
        absurd (⊎_elim (λ h. true≢false (sym h ∙ e)) (λ h. true≢false (sym h ∙ f)) (note-in-join note a b g))
    go false e false f false g = refl

pub notes-contained : (a b : Notes) → notes_inside a b ≡ true → (note : ℕ) → has_note note a ≡ true → has_note note b ≡ true
notes-contained a b h note i = sym (ap (has_note note) (notes-joined.inside_eq a b h)) ∙ note-stays note a b i

-- a note by its place in a part
note-at : (k n : ℕ) (notes : Notes) → n < 64 → has_note (64 * k + n) notes ≡ has n (notes_part notes k)
note-at k n notes l =
    let place : (64 * k + n) % 64 ≡ n = omega arith in
    let part : (64 * k + n) / 64 ≡ k = omega arith in
    ap₂ (λ (i j : ℕ). has i (notes_part notes j)) place part

pub notes-inside : (a b : Notes) → InWords a → ((note : ℕ) → has_note note a ≡ true → has_note note b ≡ true) → notes_inside a b ≡ true
notes-inside a b words each = both-on (inside a.low b.low) (inside a.high b.high) (part 0 words.low) (part 1 words.high)
  where
    part : (k : ℕ) → notes_part a k < 2 ^ 64 → inside (notes_part a k) (notes_part b k) ≡ true
    part k l =
        has-inside (notes_part a k) (notes_part b k)
        (λ n h.
        let small = below-width 64 (notes_part a k) n l h in
        has-digit n (notes_part b k)
        (sym (note-at k n b small) ∙ each (64 * k + n) (note-at k n a small ∙ digit-has n (notes_part a k) h)))

pub no_note : (note : ℕ) → has_note note no_notes ≡ true → ⊥
no_note note h = none_in_empty note (in-set 0 note h)

-- ---- A tablet's own notes

pub own-none : (tablet own : ℕ) → 7 < tablet → no_notes ≡ own_notes tablet own
unfolding own_notes
own-none tablet own h = ap notes_of (pick_true 0 (own % 2 ^ 16 * 2 ^ (16 * tablet)) (lt-ltb 7 tablet h))

-- the own notes of a tablet are the notes of one set
own-set : (tablet own : ℕ) → tablet ≤ 7 → own < 65536 → notes_of (own * 2 ^ (16 * tablet)) ≡ own_notes tablet own
unfolding own_notes
own-set tablet own h l =
    ap notes_of
    (ap (λ (n : ℕ). n * 2 ^ (16 * tablet)) (sym (mod-eq_of_lt l))
    ∙ pick-false 0 (own % 2 ^ 16 * 2 ^ (16 * tablet)) (le-ltb 7 tablet h))

-- sixteen notes among four tablets' sixty-four
placed-is : (own k : ℕ) → own < 65536 → k < 4 → own * 2 ^ (16 * k) % 18446744073709551616 ≡ own * 2 ^ (16 * k)
placed-is own k l h = shl_exact 16 (16 * k) 64 l (omega arith)

pub own-low : (tablet own : ℕ) → tablet < 4 → own < 65536
    → record { low = own * 2 ^ (16 * (tablet % 4)) % 18446744073709551616; high = 0 } ≡ own_notes tablet own
own-low tablet own h l =
    let k : tablet % 4 ≡ tablet = omega arith in
    let x = own * 2 ^ (16 * tablet) in
    let p = placed-is own tablet l h in
    let high : x / 2 ^ 64 ≡ 0 = div-eq_of_lt (rw (sym p) (mod-lt x (pow_pos 64))) in
    ap (λ (n : ℕ). record { low = own * 2 ^ (16 * n) % 18446744073709551616; high = 0 }) k
    ∙ ap (λ (n : ℕ). record { low = x % 2 ^ 64; high = n }) (sym high)
    ∙ own-set tablet own (omega arith) l

pub own-high : (tablet own : ℕ) → 4 ≤ tablet → tablet ≤ 7 → own < 65536
    → record { low = 0; high = own * 2 ^ (16 * (tablet % 4)) % 18446744073709551616 } ≡ own_notes tablet own
own-high tablet own f h l =
    let k = tablet % 4 in
    let x = own * 2 ^ (16 * k) in
    let place : 16 * tablet ≡ 16 * k + 64 = omega arith in
    let whole : x * 2 ^ 64 ≡ own * 2 ^ (16 * tablet) =
    mul_assoc own (2 ^ (16 * k)) (2 ^ 64) ∙ ap (λ (n : ℕ). own * n) (sym (pow-add 2 (16 * k) 64)) ∙ ap (λ (n : ℕ). own * 2 ^ n) (sym place) in
    ap (λ (n : ℕ). record { low = 0; high = n }) (placed-is own k l (omega arith))
    ∙ ap₂ (λ (a b : ℕ). record { low = a; high = b }) (sym (mul-mod_left x (2 ^ 64))) (sym (mul-div_cancel x (pow_pos 64)))
    ∙ ap notes_of whole
    ∙ own-set tablet own h l

-- "Tablet t is to own 16t to 16t+15": bit k of its own notes is note 16t + k
pub own_at : (tablet own k : ℕ) → tablet ≤ 7 → k < 16 → has_note (16 * tablet + k) (own_notes tablet own) ≡ has k own
unfolding own_notes
own_at tablet own k h l =
    let x = own % 2 ^ 16 * 2 ^ (16 * tablet) in
    ap (λ (n : ℕ). eqb n 1)
    (note-digit (pick (ltb 7 tablet) 0 x) (16 * tablet + k) (omega arith)
    ∙ ap (digit (16 * tablet + k)) (sym (pick-false 0 x (le-ltb 7 tablet h)))
    ∙ ap (λ (n : ℕ). n % 2) (sym (shr-shr x (16 * tablet) k) ∙ ap (λ (n : ℕ). n / 2 ^ k) (shl-shr (own % 2 ^ 16) (16 * tablet)))
    ∙ digit_low k 16 own l)

-- a note among a tablet's own is the tablet's
pub own-note : (tablet own note : ℕ) → has_note note (own_notes tablet own) ≡ true → tablet ≡ owner note
unfolding own_notes
own-note tablet own note h = go (ltb 7 tablet) (in-set (pick (ltb 7 tablet) 0 (own % 2 ^ 16 * 2 ^ (16 * tablet))) note h)
  where
    go : (b : Bool) → digit note (pick b 0 (own % 2 ^ 16 * 2 ^ (16 * tablet))) ≡ 1 → tablet ≡ owner note
    go true i = absurd (none_in_empty note i)
    go false i =
        let m = in_moved 16 (16 * tablet) (own % 2 ^ 16) note (mod-lt own (pow_pos 16)) i in
        omega arith
