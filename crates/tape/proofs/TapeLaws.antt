-- Laws of whole tapes: the head, the part behind it, and the row that is filled from the front.
use mathlib.Core.Path.{◌≡◌, refl, sym, ap, ◌∙◌}
use mathlib.Core.Logic.{◌≢◌}
use Prim.Native.Nat.{ℕ, suc, ◌+◌, ◌-◌, ◌*◌, ◌≤◌, ◌<◌}
use mathlib.Core.List.{List, [], ◌∷◌, ◌++◌, append_assoc}
use mathlib.Core.Bool.{Bool, true, false, cond}
use native.Mathlib.Omega.{arith}
use native.Mathlib.Numerals.{add-one}
use lib.ListN.{length, take, drop, get_or, set, length-take, length-drop, length-append}
use lib.Seq.{take-add, drop-drop, drop-cons, set_at}
use lib.Dec.{ltb, eqb}
use borrow.Author.Tests.{le-ltb, ne_eqb, ltb-false, eqb-false}
use Rattle.refusals.specs.declared.Refusal.{Refusal}
use Rattle.refusals.specs.declared.Refusal.TheVariants.{TapeTooLong, EndsTooSoon, NoFirstBox}
use Rattle.tape.specs.Bits.{bits_of}
use Rattle.tape.specs.Edition.{Edition}
use Rattle.std.specs.Prelude.{Result, Ok, Err}
use Rattle.tape.specs.Reading.{start, read_steps, boxes_in, least_bytes, head_of, behind, read_in}
use Rattle.tape.specs.declared.TheConstants.{MOST_STEPS}
use Rattle.tape.proofs.ByteLaws.{length-bits_of}
use Rattle.tape.proofs.LayLaws.{part-from}
use Rattle.tape.proofs.ReadingLaws.{steps-take}

module _ (ed : Edition) (s : List ℕ) where
  pub record GoodHead : Type 0 where
    pub least : least_bytes ed ≤ length s
    pub most : length s ≤ 4096
    pub some : boxes_in ed s ≢ 0

  pub head-good : (first : ℕ) → head_of ed s ≡ Ok first → GoodHead
  unfolding head_of
  head-good first h = go (ltb 4096 (length s)) refl (ltb (length s) (least_bytes ed)) refl (eqb (boxes_in ed s) 0) refl h
    where
      go : (a : Bool) → ltb 4096 (length s) ≡ a → (b : Bool) → ltb (length s) (least_bytes ed) ≡ b → (c : Bool) → eqb (boxes_in ed s) 0 ≡ c
          → cond a (Err TapeTooLong) (cond b (Err EndsTooSoon) (cond c (Err NoFirstBox) (Ok (boxes_in ed s)))) ≡ Ok first → GoodHead
      go true e b f c g h = cc
      go false e true f c g h = cc
      go false e false f true g h = cc
      go false e false f false g h = record { least = ltb-false _ _ f; most = ltb-false _ _ e; some = eqb-false _ _ g }

  pub head-is : GoodHead → head_of ed s ≡ Ok (boxes_in ed s)
  unfolding head_of
  head-is g = simp (le-ltb _ _ g.least, le-ltb _ _ g.most, ne_eqb _ _ g.some)

  -- the whole head is there
  pub head-there : GoodHead → (2 ≤ length s) × (ed.head ≤ 8 * length s) × (start ed ≤ 8 * (length s - 2))
  head-there g = (omega (arith, g.least, ed.boxes_inside), omega (arith, g.least), omega (arith, g.least, ed.boxes_inside))

  pub read-bad : (e : Refusal) → head_of ed s ≡ Err e → read_in ed s ≡ Err e
  unfolding read_in
  read-bad e h = ap (λ a. behind a (read_steps ed (bits_of (drop 2 s)))) h

  pub read-good : GoodHead → read_in ed s ≡ read_steps ed (bits_of (drop 2 s))
  unfolding read_in
  read-good g = ap (λ a. behind a (read_steps ed (bits_of (drop 2 s)))) (head-is g)

  -- the part `&s[2..]` behind a good head reads as the tape
  pub part-reads : GoodHead → read_steps ed (bits_of (take (length s - 2) (drop 2 s))) ≡ read_in ed s
  part-reads g = ap (λ l. read_steps ed (bits_of l)) (part-from 2 s) ∙ sym (read-good g)

  pub head-given : (xs : List ℕ) → read_in ed s ≡ Ok xs → GoodHead
  unfolding read_in
  head-given xs h = go (head_of ed s) refl h
    where
      go : (a : Result ℕ Refusal) → head_of ed s ≡ a → behind a (read_steps ed (bits_of (drop 2 s))) ≡ Ok xs → GoodHead
      go (Ok first) e h = head-good first e
      go (Err e) f h = cc

  -- so no tape of 4,096 bytes has more steps
  pub steps-most : (xs : List ℕ) → read_in ed s ≡ Ok xs → length xs ≤ MOST_STEPS
  unfolding read_steps
  steps-most xs e =
      let h = head-given xs e in
      let t = bits_of (drop 2 s) in
      omega (arith, steps-take ed (suc (length t)) t (start ed) xs (sym (read-good h) ∙ e), length-bits_of (drop 2 s), length-drop 2 s, h.most)

-- the next of a list
pub next-is : (n : ℕ) (xs : List ℕ) (x : ℕ) (ys : List ℕ) → drop n xs ≡ x ∷ ys → (n < length xs) × (drop (n + 1) xs ≡ ys) × (take (n + 1) xs ≡ take n xs ++ (x ∷ []))
next-is n xs x ys e = (
  omega (arith, length-drop n xs, ap length e),
  sym (drop-drop 1 n xs) ∙ ap (drop 1) e,
  take-add n 1 xs ∙ ap (λ z. take n xs ++ take 1 z) e,
)

-- one place more of a row
pub lay-more : (done row : List ℕ) (x n : ℕ) → length done ≡ n → n < length row → set (done ++ drop n row) n x ≡ (done ++ (x ∷ [])) ++ drop (n + 1) row
lay-more done row x n e h =
    ap (λ z. set (done ++ z) n x) (drop-cons row n 0 h)
    ∙ set_at done (get_or row n 0) (drop (suc n) row) x n e
    ∙ sym (append_assoc done (x ∷ []) (drop (n + 1) row) ∙ ap (λ k. done ++ (x ∷ drop k row)) (add-one n))

pub lay-length : (n : ℕ) (xs row : List ℕ) → n ≤ length xs → n ≤ length row → length (take n xs ++ drop n row) ≡ length row
lay-length n xs row h k = simp (length-append, length-take, length-drop) (omega arith)
