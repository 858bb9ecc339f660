-- Number 10 compares the free slots with "messages to send": the numbers that the rules compare are how many messages are sent.
use Prim.Native.Nat.{ℕ, zero, suc, ◌+◌, ◌*◌, ◌^◌, ◌<◌}
use mathlib.Core.Bool.{Bool, true, false}
use mathlib.Core.List.{◌∷◌}
use mathlib.Core.Path.{◌≡◌, refl, sym, ap, ◌∙◌}
use native.Mathlib.Nat.{zero-add, add-zero}
use native.Mathlib.Omega.{arith}
use lib.Count.{ones, ones_cat}
use lib.ListN.{length}
use lib.Pow.{pow_pos, shl_lt}
use borrow.Author.Tests.{eqb-false}
use Rattle.sets.specs.Choice.{pick}
use Rattle.sets.specs.Sets.{digit, has}
use Rattle.sets.specs.Bounded.{how_many}
use Rattle.sets.proofs.SetLaws.{digit_lt, has-digit}
use Rattle.sets.proofs.CountLaws.{ones-count}
use Rattle.devices.specs.declared.Contents.{Contents}
use Rattle.devices.specs.declared.Message.{Message}
use Rattle.devices.specs.Effects.{addressed, copies, messages_of}
use Rattle.rules.specs.Rules.{requests}

-- how many devices below d + k a set has is how many it has below d and the messages from d on
copies-count : (m : Message) (to d k : ℕ) → how_many (d + k) to ≡ how_many d to + length (copies m to d k)
unfolding how_many copies
copies-count m to d zero =
    let e : d + 0 ≡ d = omega arith in
    ap (λ (n : ℕ). how_many n to) e ∙ omega arith
copies-count m to d (suc k) =
    let e : d + suc k ≡ suc d + k = omega arith in
    ap (λ (n : ℕ). how_many n to) e ∙ copies-count m to (suc d) k ∙ go (has d to) refl
  where
    go : (b : Bool) → has d to ≡ b
        → how_many d to + digit d to + length (copies m to (suc d) k)
        ≡ how_many d to + length (pick b (addressed m d ∷ copies m to (suc d) k) (copies m to (suc d) k))
    go true e = omega (arith, has-digit d to e)
    go false e = omega (arith, digit_lt d to, eqb-false (digit d to) 1 e)

none-counted : how_many 0 0 ≡ 0
unfolding how_many
none-counted = refl

-- so a set of devices has as many messages sent to it as it has devices
pub messages-many : (m : Message) (to : ℕ) → length (copies m to 0 24) ≡ how_many 24 to
unfolding how_many
messages-many m to = sym (zero-add (length (copies m to 0 24))) ∙ sym (copies-count m to 0 24)

-- "One request goes to each box": as many as there are boxes
pub requests-many : (tablet round boxes : ℕ) (c : Contents) → boxes < 2 ^ 16 → length (messages_of (requests tablet round c boxes)) ≡ how_many 16 boxes
requests-many tablet round boxes c h =
    let e : boxes * 2 ^ 8 ≡ boxes * 2 ^ 8 + 0 = omega arith in
    messages-many (requests tablet round c boxes).message (boxes * 2 ^ 8) ∙ sym (ones-count 24 (boxes * 2 ^ 8) (shl_lt 16 8 h))
    ∙ ap ones e ∙ ones_cat 8 boxes 0 (pow_pos 8) ∙ none (ones boxes) ∙ ones-count 16 boxes h
  where
    none : (n : ℕ) → n + ones 0 ≡ n
    none n = ap (λ (z : ℕ). n + z) (ones-count 0 0 (pow_pos 0) ∙ none-counted) ∙ add-zero n
