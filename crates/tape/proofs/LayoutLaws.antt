-- Laws of the layout. Of an edition they use no more than what it carries: a step takes 6 to 54 bits.
use mathlib.Core.Path.{◌≡◌, refl, sym, ap, ◌∙◌}
use mathlib.Core.Logic.{◌≢◌}
use Prim.Native.Nat.{ℕ, zero, suc, ◌+◌, ◌^◌, ◌≤◌}
use mathlib.Core.List.{List, [], ◌∷◌, ◌++◌}
use mathlib.Core.Bool.{Bool, true, false, cond}
use native.Mathlib.Omega.{arith}
use lib.ListN.{length, take, drop, get_or, length-drop, take-append-drop}
use lib.Seq.{take-take, drop-drop, take-append-le, drop-append-le, length-take-le}
use lib.Dec.{leb, eqb}
use borrow.Author.Tests.{le-leb, leb-true, eqb-true}
use Rattle.std.specs.Prelude.{Some, None}
use Rattle.tape.specs.Bits.{num, bits, field_at}
use Rattle.tape.specs.Edition.{Field, span, step_width, fits, every, Edition, first_edition, edition_of}
use Rattle.tape.specs.Layout.{fields, width, fields_allowed, legal, numbers, fields_of, no_field, full, bound_of, laid_out, layout_of, allowed}
use Rattle.tape.specs.declared.edition.Edition.{Edition as InCode}
use Rattle.tape.specs.declared.layout.Layout.{Layout}
use Rattle.tape.specs.declared.edition.Edition.TheVariants as E
use Rattle.tape.proofs.BitLaws.{length-bits, num-take-lt}
use Rattle.tape.proofs.WordLaws.{field-inside}

-- a choice has what both of its sides have
pub cond_has : {A : Type 0} (P : A → Type 0) (b : Bool) {x y : A} → (b ≡ true → P x) → (b ≡ false → P y) → P (cond b x y)
cond_has P true f g = f refl
cond_has P false f g = g refl

-- a choice that falls to false
pub both : (a : Bool) {b : Bool} → cond a b false ≡ true → (a ≡ true) × (b ≡ true)
both true h = (refl, h)
both false h = absurd (let z : ◌≡◌ {A = ℕ} 0 1 = cc in omega arith)

-- a test that every row of a table passes holds at each row
every-at : (test : List Field → Bool) → test [] ≡ true → (l : List (List Field)) → every test l ≡ true → (k : ℕ) → test (get_or l k []) ≡ true
every-at test n [] h k = n
every-at test n (x ∷ xs) h zero = (both (test x) h).0
every-at test n (x ∷ xs) h (suc k) = every-at test n xs (both (test x) h).1 k

-- a step takes 6 to 54 bits
fits-is : (w : ℕ) → cond (eqb w 0) true (cond (leb 6 w) (leb w 54) false) ≡ true → (w ≢ 0 → 6 ≤ w) × (w ≤ 54)
fits-is w h = go (eqb w 0) refl h
  where
    go : (a : Bool) → eqb w 0 ≡ a → cond a true (cond (leb 6 w) (leb w 54) false) ≡ true → (w ≢ 0 → 6 ≤ w) × (w ≤ 54)
    go true e h = let z : w ≡ 0 = eqb-true w 0 e in ((λ n. absurd (n z)), omega arith)
    go false e h = let b = both (leb 6 w) h in ((λ _. leb-true 6 w b.0), leb-true w 54 b.1)

-- the bits of one field more
span-next : (xs : List Field) (i : ℕ) → span (take (suc i) xs) ≡ span (take i xs) + (get_or xs i no_field).width
span-next [] zero = refl
span-next [] (suc i) = refl
span-next (x ∷ xs) zero = omega arith
span-next (x ∷ xs) (suc i) = omega (arith, span-next xs i)

span-most : (xs : List Field) (i : ℕ) → span (take i xs) ≤ span xs
span-most [] zero = omega arith
span-most [] (suc i) = omega arith
span-most (x ∷ xs) zero = omega arith
span-most (x ∷ xs) (suc i) = omega (arith, span-most xs i)

pub step-span : (xs : List Field) → step_width xs ≢ 0 → step_width xs ≡ 3 + span xs
step-span [] h = absurd (h refl)
step-span (x ∷ xs) h = refl

-- the number in a field, by its place in the table
numbers-at : (xs : List Field) (f : List Bool) (i : ℕ) → get_or (numbers xs f) i 0 ≡ num (take (get_or xs i no_field).width (drop (span (take i xs)) f))
unfolding numbers num
numbers-at [] f i = refl
numbers-at (x ∷ xs) f zero = refl
numbers-at (x ∷ xs) f (suc i) = numbers-at xs (drop x.width f) i ∙ ap (λ l. num (take (get_or xs i no_field).width l)) (drop-drop (span (take i xs)) x.width f)

module _ (ed : Edition) where
  pub width-least : (k : ℕ) → width ed k ≢ 0 → 6 ≤ width ed k
  width-least k = (fits-is (width ed k) (every-at fits refl ed.rows ed.rows_fit k)).0

  pub width-most : (k : ℕ) → width ed k ≤ 54
  width-most k = (fits-is (width ed k) (every-at fits refl ed.rows ed.rows_fit k)).1

  -- a step's fields lie in a word
  span_fits : (k : ℕ) → 3 + span (fields ed k) ≤ 64
  span_fits k = go (fields ed k) (width-most k)
    where
      go : (xs : List Field) → step_width xs ≤ 54 → 3 + span xs ≤ 64
      go [] h = omega arith
      go (x ∷ xs) h = omega arith

  -- where the second, the third and the fourth field begin, in the word
  pub row-places : (k : ℕ) → (3 + (laid_out (fields ed k)).first ≡ 3 + span (take 1 (fields ed k)))
      × (3 + (laid_out (fields ed k)).first + (laid_out (fields ed k)).second ≡ 3 + span (take 2 (fields ed k)))
      × (3 + (laid_out (fields ed k)).first + (laid_out (fields ed k)).second + (laid_out (fields ed k)).third ≡ 3 + span (take 3 (fields ed k)))
      × (3 + span (take 3 (fields ed k)) ≤ 64)
  row-places k =
      let xs = fields ed k in
      let a = span-next xs 0 in
      let b = span-next xs 1 in
      let c = span-next xs 2 in
      (omega arith, omega arith, omega arith, omega (arith, span_fits k, span-most xs 3))

  -- a field is cut from where those before it end
  pub field-number : (x k from i : ℕ) → k ≡ num (take 3 (bits 64 x)) → from ≡ 3 + span (take i (fields ed k))
      → field_at x from (get_or (fields ed k) i no_field).width ≡ get_or (fields_of ed x) (suc i) 0
  unfolding fields_of
  field-number x k from i e f =
      let xs = fields ed k in
      let w = (get_or xs i no_field).width in
      field-inside x from w (omega (arith, span_fits k, span-next xs i, span-most xs (suc i)))
      ∙ ap (λ n. num (take w (drop n (bits 64 x)))) f
      ∙ ap (λ l. num (take w l)) (sym (drop-drop (span (take i xs)) 3 (bits 64 x)))
      ∙ sym (numbers-at xs (drop 3 (bits 64 x)) i)
      ∙ ap (λ n. get_or (numbers (fields ed n) (drop 3 (bits 64 x))) i 0) e

-- each of some fields may hold whatever fits
all_full : List Field → Bool
all_full [] = true
all_full (x ∷ xs) = cond (full x) (all_full xs) false

-- of some fields at most one may not
one_bound : List Field → Bool
one_bound [] = true
one_bound (x ∷ xs) = cond (full x) (one_bound xs) (all_full xs)

-- a field that may hold whatever fits does not matter
full-next : (x : Field) (xs : List Field) (f : List Bool) → full x ≡ true → fields_allowed (x ∷ xs) f ≡ fields_allowed xs (drop x.width f)
unfolding fields_allowed
full-next x xs f h =
    let b = both (eqb x.least 0) h in
    let c : x.least ≡ 0 = eqb-true _ _ b.0 in
    let d : suc x.most ≡ 2 ^ x.width = eqb-true _ _ b.1 in
    let l : x.least ≤ num (take x.width f) = omega arith in
    let m : num (take x.width f) ≤ x.most = omega (arith, num-take-lt f x.width) in
    simp (le-leb _ _ l, le-leb _ _ m)

in-full : (xs : List Field) (f : List Bool) → all_full xs ≡ true → fields_allowed xs f ≡ true
unfolding all_full fields_allowed
in-full [] f h = refl
in-full (x ∷ xs) f h = let b = both (full x) h in full-next x xs f b.0 ∙ in-full xs (drop x.width f) b.1

-- some fields of a word, from a bit on, are judged by their bound
in-bound : (xs : List Field) (from x : ℕ) → from + span xs ≤ 64 → one_bound xs ≡ true → fields_allowed xs (drop from (bits 64 x)) ≡ allowed (bound_of from xs) x
unfolding one_bound fields_allowed
in-bound [] from x l h = refl
in-bound (y ∷ ys) from x l h = go (full y) refl h (in-bound ys (from + y.width) x (omega arith))
  where
    f : List Bool
    f = drop from (bits 64 x)

    itself : (t : Bool) → cond t true false ≡ t
    itself true = refl
    itself false = refl

    go : (b : Bool) → full y ≡ b → cond b (one_bound ys) (all_full ys) ≡ true
        → (one_bound ys ≡ true → fields_allowed ys (drop (from + y.width) (bits 64 x)) ≡ allowed (bound_of (from + y.width) ys) x)
        → fields_allowed (y ∷ ys) f ≡ allowed (cond b (bound_of (from + y.width) ys) (Some (record { from = from; width = y.width; least = y.least; most = y.most }))) x
    go true e h next = full-next y ys f e ∙ ap (fields_allowed ys) (drop-drop y.width from (bits 64 x)) ∙ next h
    go false e h next =
        let n = num (take y.width f) in
        ap (λ t. cond (leb y.least n) (cond (leb n y.most) t false) false) (in-full ys (drop y.width f) h)
        ∙ ap (λ t. cond (leb y.least n) t false) (itself (leb n y.most))
        ∙ ap (λ m. cond (leb y.least m) (leb m y.most) false) (sym (field-inside x from y.width (omega arith)))

-- fields are judged by their own bits
allowed-front : (xs : List Field) (f r : List Bool) → span xs ≤ length f → fields_allowed xs (f ++ r) ≡ fields_allowed xs f
unfolding fields_allowed
allowed-front [] f r h = refl
allowed-front (x ∷ xs) f r h =
    let w : x.width ≤ length f = omega arith in
    simp (take-append-le x.width f r w, drop-append-le x.width f r w, allowed-front xs (drop x.width f) r (rw length-drop (omega arith)))

-- a step's bits are judged by its fields in the word
pub legal-fields : (ed : Edition) (x k : ℕ) → k ≡ num (take 3 (bits 64 x)) → width ed k ≢ 0
    → legal ed (take (width ed k) (bits 64 x)) ≡ fields_allowed (fields ed k) (drop 3 (bits 64 x))
unfolding legal
legal-fields ed x k e h =
    let b = bits 64 x in
    let w = width ed k in
    let xs = fields ed k in
    let f = take w b in
    let six = width-least ed k h in
    let long : length f ≡ w = length-take-le w b (rw length-bits (omega (arith, width-most ed k))) in
    let same : num (take 3 f) ≡ k = ap num (take-take 3 w b (omega arith)) ∙ sym e in
    ap (λ n. fields_allowed (fields ed n) (drop 3 f)) same
    ∙ sym (allowed-front xs (drop 3 f) (drop w b) (rw length-drop (omega (arith, step-span xs h))))
    ∙ ap (fields_allowed xs) (sym (drop-append-le 3 f (drop w b) (omega arith)) ∙ ap (drop 3) (take-append-drop w b))

-- of the fields of the code's editions at most one has a bound of its own
rows_bound : (e : InCode) (k : ℕ) → one_bound (fields (edition_of e) k) ≡ true
unfolding one_bound all_full
rows_bound E.First k = every-at one_bound refl first_edition.rows refl k

-- a step word of such an edition is judged by its bound
pub legal-bound : (e : InCode) (x k : ℕ) → k ≡ num (take 3 (bits 64 x)) → width (edition_of e) k ≢ 0
    → allowed (laid_out (fields (edition_of e) k)).bound x ≡ legal (edition_of e) (take (width (edition_of e) k) (bits 64 x))
legal-bound e x k n h = sym (legal-fields (edition_of e) x k n h ∙ in-bound (fields (edition_of e) k) 3 x (span_fits (edition_of e) k) (rows_bound e k))

-- a layout that the table has for a kind is that of its fields, which make a step
pub record LaidOut (e : InCode) (k : ℕ) (l : Layout) : Type 0 where
  pub is : l ≡ laid_out (fields (edition_of e) k)
  pub wide : l.width ≡ width (edition_of e) k
  pub some : width (edition_of e) k ≢ 0
  pub judged : (x : ℕ) → k ≡ num (take 3 (bits 64 x)) → allowed l.bound x ≡ legal (edition_of e) (take (width (edition_of e) k) (bits 64 x))

pub laid-out : (e : InCode) (k : ℕ) (l : Layout) → Some l ≡ layout_of (fields (edition_of e) k) → LaidOut e k l
laid-out e k l h =
    let f = from-fields (fields (edition_of e) k) h in
    record {
      is = f.0;
      wide = ap (λ (m : Layout). m.width) f.0;
      some = f.1;
      judged = λ x n. ap (λ (m : Layout). allowed m.bound x) f.0 ∙ legal-bound e x k n f.1;
    }
  where
    from-fields : (xs : List Field) → Some l ≡ layout_of xs → (l ≡ laid_out xs) × (step_width xs ≢ 0)
    from-fields [] h = cc
    from-fields (x ∷ xs) h = let i : l ≡ laid_out (x ∷ xs) = cc in (i, λ z. absurd (omega (arith, z)))

pub not-laid : (xs : List Field) → None ≡ layout_of xs → xs ≡ []
not-laid [] e = refl
not-laid (x ∷ xs) e = cc
