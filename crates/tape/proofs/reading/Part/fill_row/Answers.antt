-- `Part::fill_row` meets its contract: each step read is the next of the part's words, and is laid behind those before it.
use borrow.Author.Rules.{rules}
use native.Mathlib.Omega.{arith}
use mathlib.Core.Path.{◌≡◌, refl, sym, ap, ap₂, subst, ◌∙◌}
use Prim.Native.Nat.{ℕ, suc, ◌+◌, ◌-◌, ◌≤◌, ◌<◌}
use mathlib.Core.List.{List, [], ◌∷◌, ◌++◌}
use native.Mathlib.Nat.{sub-zero}
use lib.ListN.{length, take, drop, set, length-drop}
use Rattle.std.proofs.lemmas.List.{set-get_or}
use lib.Seq.{take_all, length-take-le}
use Rattle.tape.specs.Bits.{bits_of}
use Rattle.tape.specs.Edition.{Edition, edition_of}
use Rattle.std.specs.Prelude.{Ok}
use Rattle.tape.specs.Reading.{read_at, Outcome, onward, read_from, read_steps}
use Rattle.tape.specs.declared.reading.Reading.TheVariants.{Step}
use Rattle.tape.specs.Promises.{held_by}
use Rattle.tape.proofs.PromiseLaws.{success-kept}
use Rattle.tape.proofs.ByteLaws.{length-bits_of}
use Rattle.tape.proofs.ReadingLaws.{Moves, moves, read-from, more-is, none_left}
use Rattle.tape.proofs.TapeLaws.{next-is, lay-more, lay-length}
use Rattle.tape.proofs.reading.Part.fill_row.Invariants.{xs, Filled}
use Rattle.tape.proofs.reading.Part.fill_row.Goals.{In-Step}
use Rattle.tape.proofs.reading.Part.fill_row.Goals as goal

record Next (ed : Edition) (s : List ℕ) (n x q : ℕ) : Type 0 where
  ys : List ℕ
  rests : read_from ed (suc (length (bits_of s)) - (n + 1)) (bits_of s) q ≡ Ok ys
  next : (n < length (xs ed s)) × (drop (n + 1) (xs ed s) ≡ ys) × (take (n + 1) (xs ed s) ≡ take n (xs ed s) ++ (x ∷ []))

abbrev rest : Edition → List ℕ → ℕ → ℕ → Outcome
rest ed s n = read_from ed (suc (length (bits_of s)) - (n + 1)) (bits_of s)

unrolled : (ed : Edition) (s row₀ row : List ℕ) (p n : ℕ) → Filled ed s row₀ row p n → read_from ed (suc (length (bits_of s)) - n) (bits_of s) p ≡ onward (read_at ed (bits_of s) p) (rest ed s n)
unrolled ed s row₀ row p n i = read-from ed (bits_of s) p (suc (length (bits_of s))) n (omega (arith, i.within, i.count, length-bits_of s))

-- where the next reading is
moved : (c : In-Step) → Moves (bits_of c.args.self.bytes.now) c.loop-place.at (Step c.in-Step.word c.in-Step.next)
moved c = subst (λ z. Moves (bits_of c.args.self.bytes.now) c.loop-place.at z) (sym c.read_step.ensures ∙ c.in-Step.is) (moves (edition_of c.args.self.edition) (bits_of c.args.self.bytes.now) c.loop-place.at)

-- the words that are left, and the next of them
nexts : (c : In-Step) → Next (edition_of c.args.self.edition) c.args.self.bytes.now c.loop-place.place-index c.in-Step.word c.in-Step.next
nexts c =
    let l = c.loop-place in
    let ed = edition_of c.args.self.edition in
    let s = c.args.self.bytes.now in
    let x = c.in-Step.word in
    let q = c.in-Step.next in
    let m = more-is x (rest ed s l.place-index q) (drop l.place-index (xs ed s))
    (ap (λ z. onward z (rest ed s l.place-index)) (sym c.in-Step.is ∙ c.read_step.ensures)
    ∙ sym (unrolled ed s c.args.row.now l.row l.at l.place-index l.invariant) ∙ l.invariant.left) in
    record { ys = m.0; rests = m.1; next = next-is l.place-index (xs ed s) x m.0 m.2 }

long : (c : In-Step) → length c.loop-place.row ≡ length c.args.row.now
long c =
    let l = c.loop-place in
    let ed = edition_of c.args.self.edition in
    ap length l.invariant.laid ∙ lay-length l.place-index (xs ed c.args.self.bytes.now) c.args.row.now l.invariant.some (omega (arith, c.requires.room))

-- once each word lies in the row
all-laid : (ed : Edition) (s row₀ row : List ℕ) (p n : ℕ) → read_steps ed (bits_of s) ≡ Ok (xs ed s) → length (xs ed s) ≤ length row₀ → Filled ed s row₀ row p n → n ≡ length (xs ed s)
    → row ≡ held_by row₀ (read_steps ed (bits_of s))
all-laid ed s row₀ row p n good room i k =
    i.laid ∙ ap₂ (λ x m. x ++ drop m row₀) (take_all n (xs ed s) (omega arith)) k
    ∙ (success-kept row₀ (λ z. z) (read_steps ed (bits_of s)) (xs ed s) good room).held

pub loop-place-init : goal.loop-place-init
unfolding read_steps
loop-place-init c =
    let e = c.start-at.ensures in
    let t = bits_of c.args.self.bytes.now in
    record {
      within = omega (arith, e, c.args.self.begun);
      count = search rules;
      some = search rules;
      left = rw sub-zero (ap (read_from (edition_of c.args.self.edition) (suc (length t)) t) e ∙ c.requires.good);
      laid = refl;
    }

pub returns-in_default : goal.returns-in_default
returns-in_default c =
    let l = c.loop-place in
    let ed = edition_of c.args.self.edition in
    let s = c.args.self.bytes.now in
    let i = l.invariant in
    let e : drop l.place-index (xs ed s) ≡ [] = none_left c.read_step.result (rest ed s l.place-index) (drop l.place-index (xs ed s)) c.in_default.not-Step
    (ap (λ z. onward z (rest ed s l.place-index)) c.read_step.ensures ∙ sym (unrolled ed s c.args.row.now l.row l.at l.place-index i) ∙ i.left) in
    let k : l.place-index ≡ length (xs ed s) = omega (arith, length-drop l.place-index (xs ed s), ap length e, i.some) in
    set-get_or l.row l.place-index 0 ∙ all-laid ed s c.args.row.now l.row l.at l.place-index c.requires.good c.requires.room i k

pub loop-place-preserved : goal.loop-place-preserved
loop-place-preserved c =
    let at = goal.at.loop-place-preserved c in
    let l = c.loop-place in
    let ed = edition_of c.args.self.edition in
    let s = c.args.self.bytes.now in
    let x = c.in-Step.word in
    let i = l.invariant in
    let m = moved at.In-Step in
    let n = nexts at.In-Step in
    let k = length-bits_of s in
    record {
      within = omega arith;
      count = omega (arith, i.count);
      some = omega (arith, n.next.0);
      left = n.rests ∙ ap Ok (sym n.next.1);
      laid = ap (λ z. set z l.place-index x) i.laid
          ∙ lay-more (take l.place-index (xs ed s)) c.args.row.now x l.place-index (length-take-le l.place-index (xs ed s) i.some) (omega (arith, n.next.0, c.requires.room))
          ∙ ap (λ z. z ++ drop (l.place-index + 1) c.args.row.now) (sym n.next.2);
    }
