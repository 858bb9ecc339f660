-- Each tablet's round is the old one, or the old one plus 1 where the step began it, in any state (`rounds_move`).
use Prim.Native.Nat.{ℕ, ◌≤◌}
use mathlib.Core.Bool.{Bool, true, false}
use mathlib.Core.Logic.{inl, inr}
use mathlib.Core.Path.{◌≡◌, refl, sym, ap, subst, ◌∙◌}
use native.Mathlib.Omega.{arith}
use lib.Dec.{eqb}
use borrow.Author.Tests.{eq-eqb, eqb-true, eqb-false}
use Rattle.sets.specs.Choice.{pick}
use Rattle.devices.specs.declared.Tablet.{Tablet}
use Rattle.devices.specs.declared.Letter.{Letter}
use Rattle.devices.specs.declared.Message.{Message}
use Rattle.devices.specs.declared.Here.{Here}
use Rattle.devices.specs.declared.Effect.{Effect}
use Rattle.devices.specs.declared.Step.{Step}
use Rattle.devices.specs.declared.Step.TheVariants.{Advance}
use Rattle.devices.specs.Contents.{fresh_tablet}
use Rattle.devices.specs.Effects.{box_of, refuse}
use Rattle.rules.specs.Rules.{marked_in, of_its_round, marked}
use Rattle.state.proofs.SlotLaws.{replaced-at}
use Rattle.parlour.specs.Steps.{within, slot_of, device_of, here_at, applied, taken_if, taken}
use Rattle.parlour.specs.Statements.{tablet_at, RoundMoves, RoundsMove}
use Rattle.parlour.proofs.Places.{within_in, tablet-place}
use Rattle.parlour.proofs.Acts.{Acts, refused, asks, hears_request, hears_answer, hears_commit, goes_on, commits, adopts, changes_none, device_for, here_for, effect_for, acts-for}
use Rattle.parlour.proofs.Frame.{tablet-other}

-- a tablet that a step names stands at its own place
own-place : (d tablet : ℕ) → d ≡ within 24 tablet → tablet ≤ 7 → tablet ≡ within 8 d
own-place d tablet e l = sym (tablet-place (e ∙ sym (within_in 24 tablet (omega arith))) (omega arith))

-- marking a box leaves the round
marked-round : (l : Letter) (x : Tablet) → (marked l x).round ≡ x.round
unfolding marked
marked-round l x = go (of_its_round l x)
  where
    go : (b : Bool) → (pick b (record { round = x.round; phase = marked_in (box_of l.from) x.phase }) x).round ≡ x.round
    go true = refl
    go false = refl

acts-move : {known : Bool} (h : Here) {step : Step} {m : Message} {e : Effect} (d : ℕ) → d ≡ device_of step m → Acts known h step m e
    → RoundMoves step e.outcome (within 8 d) h.tablet.round e.tablet.round
unfolding refuse
acts-move h d a (refused step m n b) = inl refl
acts-move h d a (asks tablet own pair m listed named l i r n) = inr (refl, inl (eq-eqb tablet (within 8 d) (own-place d tablet a l), refl))
acts-move h d a (hears_request slot l) = inl refl
acts-move h d a (hears_answer slot l) = inl (marked-round l h.tablet)
acts-move h d a (hears_commit slot n) = inl refl
acts-move h d a (goes_on tablet m x floor l i r f) = inr (refl, inr (ap Advance (own-place d tablet a l), refl))
acts-move h d a (commits tablet m x l i y z w) = inl refl
acts-move h d a (adopts tablet m x floor l i f y) = inl refl
acts-move h d a (changes_none step m frees stops sending i f g c) = inl refl

pub rounds_move : RoundsMove
unfolding taken taken_if applied here_at
rounds_move step r q = go (eqb q t) refl
  where
    t : ℕ
    t = within 8 (device_for step r)

    e : Effect
    e = effect_for step r

    go : (b : Bool) → eqb q t ≡ b → RoundMoves step (taken step r).outcome q (tablet_at q r).round (tablet_at q (taken step r).run).round
    go true i =
        subst (λ (x : ℕ). RoundMoves step (taken step r).outcome x (tablet_at x r).round (tablet_at x (taken step r).run).round)
        (sym (eqb-true q t i))
        (replaced-at (λ (x y : Tablet). RoundMoves step e.outcome t x.round y.round) (λ x. inl refl) fresh_tablet r.tablets t
        e.tablet (acts-move (here_for step r) (device_for step r) refl (acts-for step r)) t)
    go false i = inl (ap (λ (x : Tablet). x.round) (tablet-other (slot_of step) (device_for step r) e r q (eqb-false q t i)))
