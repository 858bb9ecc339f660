use Rattle.std.proofs.Common.{arith, ap, sym, ◌∙◌, length, length-set, position}
use Rattle.state.specs.Slots.{is_free}
use borrow.Author.Tests.{eq-eqb, ne_eqb}
use Rattle.parlour.proofs.Laying.{lay-skip, lay-store, lay-full, lay_done, rest_whole}
use Rattle.parlour.proofs.lay.Goals.{then-sending-device-eq1+in-Some, else-sending-device-eq1}
use Rattle.parlour.proofs.lay.Goals as goal

pub loop-device-preserved : goal.loop-device-preserved
loop-device-preserved c =
    let l = c.loop-device in
    let rest = ap (position is_free) (rest_whole l.next l.slots l.invariant.long) in
    elim c.if-sending-device-eq1.branch [
      | then-sending-device-eq1+in-Some w ↦
          let found = sym rest ∙ sym w.first_free.ensures ∙ w.in-Some.is in
          let done = lay-store _ _ _ l.next l.device l.slots w.in-Some.place (omega arith) (eq-eqb _ _ w.if-sending-device-eq1.true) found
          w.addressed_to.ensures w.next-is w.slots-is l.invariant.laying in
          record {
            long = ap length w.slots-is ∙ length-set _ _ _ ∙ l.invariant.long;
            within = omega (arith, done.0, l.invariant.long);
            laying = done.1;
          }
      | else-sending-device-eq1 w ↦
          rw (w.slots-is, w.next-is)
          (record {
            long = l.invariant.long;
            within = l.invariant.within;
            laying = lay-skip _ _ _ l.next l.device l.slots (omega arith) (ne_eqb _ _ w.if-sending-device-eq1.false) l.invariant.laying;
          })
    ]

pub returns-in_default : goal.returns-in_default
returns-in_default c =
    let l = c.loop-device in
    let rest = ap (position is_free) (rest_whole l.next l.slots l.invariant.long) in
    let none = sym rest ∙ sym c.first_free.ensures ∙ c.in_default.is in
    lay-full _ _ _ l.next l.device l.slots (omega arith) (eq-eqb _ _ c.if-sending-device-eq1.true) (omega (arith, l.invariant.long)) none
    l.invariant.laying

pub returns : goal.returns
returns c =
    let l = c.loop-device in
    lay_done _ _ _ l.next l.device l.slots (omega arith) l.invariant.laying
