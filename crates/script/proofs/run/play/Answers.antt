-- Each turn makes one call: one record more. Assumes nothing.
use Rattle.std.proofs.Common.{refl, rules}
use Rattle.script.proofs.run.Playing.{none_played, one_more}
use Rattle.script.proofs.run.play.Goals as goal

pub loop-i-init : goal.loop-i-init
loop-i-init c = (refl, search none_played)

pub loop-i-preserved : goal.loop-i-preserved
loop-i-preserved c =
    let read = rw c.record_at.ensures at c.decode-call.ensures in (
      search rules,
      one_more _ _ _ _ _ _ _ _ _ _ _ c.loop-i.invariant.1 read c.loop-i-test.true c.requires.log_has_room (search rules)
          c.carry_out.ensures.1,
    )
