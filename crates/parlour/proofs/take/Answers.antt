use Rattle.parlour.proofs.Taking.{counted-free, take-is}
use Rattle.parlour.proofs.take.Goals as goal

pub returns : goal.returns
returns c =
    let a = c.args in
    let run = a.run.now in
    take-is a.proper a.step run c.counted.result c.slot_of-slot.ensures.0 c.device_of-device.ensures.0 c.place_within-tablet.ensures.0
    (counted-free a.step run c.counted.ensures) c.effect_of-effect.ensures c.freed.ensures c.stopped_after-run.ensures c.kept_after-run.ensures
    c.lay.ensures
