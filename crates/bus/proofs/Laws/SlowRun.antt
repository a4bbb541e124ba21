-- What follows from the definition of the slow run. Assumes nothing.
use Rattle.std.specs.Prelude.{suc, ◌≡◌, refl, List, [], ◌∷◌, ◌++◌, length}
use Rattle.std.proofs.Common.{ap, ◌∙◌}
use Rattle.bus.specs.Machine.{Machine, Answer, well_formed}
use Rattle.bus.specs.Call.{answer}
use Rattle.bus.proofs.Laws.Call.{answer_keeps}
use Rattle.bus.specs.SlowRun.{answers, after}
use Rattle.bus.specs.declared.machine.Call.{Call}

-- The slow run of two lists, one after the other.
pub answers_append : (cs ds : List Call) (m : Machine) → answers (cs ++ ds) m ≡ answers cs m ++ answers ds (after cs m)
answers_append [] ds m = refl
answers_append (c ∷ cs) ds m =
    ap {B = List Answer} (λ rest. answer c m ∷ rest) (answers_append cs ds (answer c m).machine)

pub after_append : (cs ds : List Call) (m : Machine) → after (cs ++ ds) m ≡ after ds (after cs m)
after_append [] ds m = refl
after_append (c ∷ cs) ds m = after_append cs ds (answer c m).machine

-- It answers each call.
pub length_answers : (cs : List Call) (m : Machine) → length (answers cs m) ≡ length cs
length_answers [] m = refl
length_answers (c ∷ cs) m = ap suc (length_answers cs (answer c m).machine)

-- It neither makes nor repairs an ill-formed machine.
pub after_keeps : (cs : List Call) (m : Machine) → well_formed (after cs m) ≡ well_formed m
after_keeps [] m = refl
after_keeps (c ∷ cs) m = after_keeps cs (answer c m).machine ∙ answer_keeps c m
