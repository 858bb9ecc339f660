-- The cases of the definitions of reading, one law for each; that readings go on; and how many bits the steps take (`steps-take`).
use mathlib.Core.Path.{◌≡◌, refl, sym, ap, ◌∙◌}
use mathlib.Core.Logic.{◌≢◌}
use Prim.Native.Nat.{ℕ, zero, suc, ◌+◌, ◌-◌, ◌*◌, ◌≤◌, ◌<◌}
use mathlib.Core.List.{List, [], ◌∷◌}
use mathlib.Core.Bool.{Bool, true, false, cond}
use native.Mathlib.Nat.{add-zero}
use native.Mathlib.Omega.{arith}
use lib.ListN.{length, take, drop, length-drop, take-append-drop}
use lib.Seq.{take-take, length-take-le}
use lib.Dec.{leb, ltb, eqb}
use borrow.Author.Tests.{le-leb, lt-leb, eq-eqb, ne_eqb, leb-true, eqb-false, eqb-true, ltb-true}
use Rattle.refusals.specs.declared.Refusal.{Refusal}
use Rattle.refusals.specs.declared.Refusal.TheVariants.{EndsTooSoon, NoStep, BehindTheEnd}
use Rattle.tape.specs.Bits.{bit, num, bits, word, Ahead}
use Rattle.tape.specs.Edition.{Edition, first_edition, edition_of}
use Rattle.tape.specs.declared.edition.Edition.{Edition as InCode}
use Rattle.tape.specs.declared.edition.Edition.TheVariants as E
use Rattle.tape.specs.Layout.{width, legal}
use Rattle.std.specs.Prelude.{Ok, Err}
use Rattle.tape.specs.Reading.{step_at, kind_at, end_at, begins, end_or, read_at, Outcome, more, onward, read_from}
use Rattle.tape.specs.Promises.{counted, ended_at}
use Rattle.tape.specs.declared.reading.Reading.{Reading}
use Rattle.tape.specs.declared.reading.Reading.TheVariants.{Step, Refused, End}
use Rattle.tape.proofs.LayoutLaws.{cond_has, width-least}
use Rattle.tape.proofs.MarkLaws.{begins-is, begins-append, mark-ahead, end-ahead}

-- a reading that is a step goes on, within the tape
abbrev pub Moves : List Bool → ℕ → Reading → Type 0
Moves t p (Step x q) = (p < q) × (q ≤ length t)
Moves t p (Refused k) = Unit {0}
Moves t p End = Unit {0}

module _ (ed : Edition) (t : List Bool) (p : ℕ) where
  pub step-short : (w : ℕ) → length t < p + w → step_at ed t p w ≡ Refused EndsTooSoon
  unfolding step_at
  step-short w h = simp (lt-leb _ _ h)

  pub step-bad : (w : ℕ) → p + w ≤ length t → legal ed (take w (drop p t)) ≡ false → step_at ed t p w ≡ Refused NoStep
  unfolding step_at
  step-bad w h e = simp (le-leb _ _ h, e)

  pub step-good : (w : ℕ) → p + w ≤ length t → legal ed (take w (drop p t)) ≡ true → step_at ed t p w ≡ Step (word (take w (drop p t))) (p + w)
  unfolding step_at
  step-good w h e = simp (le-leb _ _ h, e)

  pub kind-step : (k : ℕ) → width ed k ≢ 0 → kind_at ed t p k ≡ step_at ed t p (width ed k)
  unfolding kind_at
  kind-step k h = simp (ne_eqb _ _ h)

  pub kind-none : (k : ℕ) → width ed k ≡ 0 → kind_at ed t p k ≡ Refused NoStep
  unfolding kind_at
  kind-none k e = simp (eq-eqb _ _ e)

  pub read-mark : begins ed.mark (drop p t) ≡ true → read_at ed t p ≡ end_at t (p + length ed.mark)
  unfolding read_at
  read-mark e = simp e

  pub read_short : begins ed.mark (drop p t) ≡ false → length t < p + 3 → read_at ed t p ≡ Refused EndsTooSoon
  unfolding read_at
  read_short e h = simp (e, lt-leb _ _ h)

  pub read-kind : (k : ℕ) → begins ed.mark (drop p t) ≡ false → p + 3 ≤ length t → num (take 3 (drop p t)) ≡ k → read_at ed t p ≡ kind_at ed t p k
  unfolding read_at
  read-kind k e h f = simp (e, le-leb _ _ h, f)

  -- a property of every reading: of a refusal, of the end, and of a step
  pub read_has : (P : Reading → Type 0) → ((e : Refusal) → P (Refused e))
      → (begins ed.mark (drop p t) ≡ true → length t < p + length ed.mark + 8 → num (drop (p + length ed.mark) t) ≡ 0 → P End)
      → ((k : ℕ) → begins ed.mark (drop p t) ≡ false → num (take 3 (drop p t)) ≡ k → width ed k ≢ 0 → p + width ed k ≤ length t
      → legal ed (take (width ed k) (drop p t)) ≡ true → P (Step (word (take (width ed k) (drop p t))) (p + width ed k)))
      → P (read_at ed t p)
  unfolding read_at kind_at step_at end_at
  read_has P bad end step =
      cond_has P (begins ed.mark (drop p t))
      (λ m. cond_has P (ltb (length t) (p + length ed.mark + 8))
      (λ l. cond_has P (eqb (num (drop (p + length ed.mark) t)) 0) (λ z. end m (ltb-true _ _ l) (eqb-true _ _ z)) (λ _. bad BehindTheEnd)) (λ _. bad BehindTheEnd))
      (λ m. cond_has P (leb (p + 3) (length t))
      (λ _. cond_has P (eqb (width ed k) 0) (λ _. bad NoStep)
      (λ n. cond_has P (leb (p + width ed k) (length t))
      (λ l. cond_has P (legal ed (take (width ed k) (drop p t))) (λ g. step k m refl (eqb-false _ _ n) (leb-true _ _ l) g) (λ _. bad NoStep))
      (λ _. bad EndsTooSoon)))
      (λ _. bad EndsTooSoon))
    where
      k : ℕ
      k = num (take 3 (drop p t))

  pub moves : Moves t p (read_at ed t p)
  moves = read_has (Moves t p) (λ _. tt) (λ _ _ _. tt) (λ k _ _ n l _. (omega (arith, width-least ed k n), l))

  -- one reading more
  pub read-from : (f n : ℕ) → n < f → read_from ed (f - n) t p ≡ onward (read_at ed t p) (read_from ed (f - (n + 1)) t)
  unfolding read_from
  read-from f n h = let e : f - n ≡ suc (f - (n + 1)) = omega arith in rw e

-- where no step is: the end by the bits ahead, or else the refusal that reading comes to
module _ (ed : Edition) (t : List Bool) (p x left : ℕ) (a : Ahead t p x) (q : p ≤ length t) (l : left ≡ length t - p) where
  pub end-or : (refusal : Refusal) → (begins ed.mark (drop p t) ≡ false → read_at ed t p ≡ Refused refusal)
      → end_or ed x left refusal ≡ read_at ed t p
  end-or refusal h = go (begins ed.mark (drop p t)) refl
    where
      end : Reading
      end = end_at (take (left - length ed.mark) (drop (length ed.mark) (bits 64 x))) 0

      same : begins ed.mark (take left (bits 64 x)) ≡ begins ed.mark (drop p t)
      same = mark-ahead ed.mark x left ed.mark_most t p a q l

      go : (b : Bool) → begins ed.mark (drop p t) ≡ b → end_or ed x left refusal ≡ read_at ed t p
      go true e =
          let m = (begins-is ed.mark (drop p t) e).0 in
          ap (λ b. cond b end (Refused refusal)) (same ∙ e)
          ∙ end-ahead t p x left (length ed.mark) a q l (omega (arith, m, length-drop p t)) ed.mark_most ∙ sym (read-mark ed t p e)
      go false e = ap (λ b. cond b end (Refused refusal)) (same ∙ e) ∙ sym (h e)

-- no step of the code's editions begins with the end mark
unmarked : (e : InCode) (f : List Bool) → width (edition_of e) (num (take 3 f)) ≢ 0 → legal (edition_of e) f ≡ true → begins (edition_of e).mark f ≡ false
unfolding bit num
unmarked E.First f n h = go (begins first_edition.mark f) refl
  where
    go : (b : Bool) → begins first_edition.mark f ≡ b → b ≡ false
    go true e = absurd (n (ap (width first_edition) (begins-is first_edition.mark f e).1))
    go false e = refl

pub step-unmarked : (e : InCode) (t : List Bool) (p k : ℕ) → num (take 3 (drop p t)) ≡ k → width (edition_of e) k ≢ 0 → p + width (edition_of e) k ≤ length t
    → legal (edition_of e) (take (width (edition_of e) k) (drop p t)) ≡ true → begins (edition_of e).mark (drop p t) ≡ false
step-unmarked e t p k kind n l h =
    let ed = edition_of e in
    let w = width ed k in
    let f = take w (drop p t) in
    let six = width-least ed k n in
    let long : length f ≡ w = length-take-le w (drop p t) (rw length-drop (omega arith)) in
    let same : num (take 3 f) ≡ k = ap num (take-take 3 w (drop p t) (omega arith)) ∙ kind in
    ap (begins ed.mark) (sym (take-append-drop w (drop p t)))
    ∙ begins-append ed.mark f (drop w (drop p t)) (omega (arith, long, ed.mark_most))
    ∙ unmarked e f (λ z. n (ap (width ed) (sym same) ∙ z)) h

-- one step more, and what is left
pub more-is : (x : ℕ) (o : Outcome) (l : List ℕ) → more x o ≡ Ok l → (ys : List ℕ) × (o ≡ Ok ys) × (l ≡ x ∷ ys)
more-is x (Ok ys) l e = (ys, refl, cc)
more-is x (Err k) l e = cc

-- how many steps there are at a reading that is no step
pub last-is : (r : Reading) (m : ℕ) (rest : ℕ → Outcome) → ((x q : ℕ) → r ≢ Step x q) → ended_at r m ≡ counted m (onward r rest)
last-is (Step x q) m rest h = absurd (h x q refl)
last-is (Refused e) m rest h = refl
last-is End m rest h = ap Ok (sym (add-zero m))

-- one step more before the rest
pub one_more : (m x : ℕ) (o : Outcome) → counted m (more x o) ≡ counted (m + 1) o
one_more m x (Ok xs) = let e : m + suc (length xs) ≡ m + 1 + length xs = omega arith in ap Ok e
one_more m x (Err e) = refl

-- at a reading that is no step nothing is left
pub none_left : (r : Reading) (rest : ℕ → Outcome) (l : List ℕ) → ((x q : ℕ) → r ≢ Step x q) → onward r rest ≡ Ok l → l ≡ []
none_left (Step x q) rest l h e = absurd (h x q refl)
none_left (Refused k) rest l h e = cc
none_left End rest l h e = cc

-- a step takes six bits or more, and the end mark three
abbrev Takes : List Bool → ℕ → Reading → Type 0
Takes t p (Step x q) = p + 6 ≤ q
Takes t p (Refused k) = Unit {0}
Takes t p End = p + 3 ≤ length t

takes : (ed : Edition) (t : List Bool) (p : ℕ) → Takes t p (read_at ed t p)
takes ed t p =
    read_has ed t p (Takes t p) (λ _. tt)
    (λ m _ _. omega (arith, (begins-is ed.mark (drop p t) m).0, length-drop p t, ed.mark_least))
    (λ k _ _ n _ _. omega (arith, width-least ed k n))

-- so the steps that are read, with the end mark behind them, lie in the tape
pub steps-take : (ed : Edition) (f : ℕ) (t : List Bool) (p : ℕ) (xs : List ℕ) → read_from ed f t p ≡ Ok xs → p + 6 * length xs + 3 ≤ length t
unfolding read_from
steps-take ed zero t p xs e = cc
steps-take ed (suc f) t p xs e = go (read_at ed t p) (takes ed t p) e (λ q ys g. steps-take ed f t q ys g)
  where
    go : (r : Reading) → Takes t p r → onward r (read_from ed f t) ≡ Ok xs
        → ((q : ℕ) (ys : List ℕ) → read_from ed f t q ≡ Ok ys → q + 6 * length ys + 3 ≤ length t) → p + 6 * length xs + 3 ≤ length t
    go (Step y q) m e ih =
        let w = more-is y (read_from ed f t q) xs e in
        omega (arith, m, ih q w.0 w.1, ap length w.2)
    go (Refused k) m e ih = cc
    go End m e ih = let q : [] ≡ xs = cc in omega (arith, m, ap length q)
