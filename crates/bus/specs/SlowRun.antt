-- The slow run: paper 01, section of that name. `answer` (Call.antt) is the answer to one call; an advance and a skip go by single
-- cycles of the machine (Time.antt).
use Rattle.std.specs.Prelude.{List, [], ◌∷◌}
use Rattle.bus.specs.Machine.{Machine, Answer}
use Rattle.bus.specs.Call.{answer}
use Rattle.bus.specs.declared.machine.Call.{Call}

-- "The slow run of demand 3 is fed a machine and the calls' arguments, and keeps that machine only."
abbrev pub answers : List Call → Machine → List Answer
answers [] m = []
answers (c ∷ cs) m = answer c m ∷ answers cs (answer c m).machine

-- the machine that it keeps, after its calls
abbrev pub after : List Call → Machine → Machine
after [] m = m
after (c ∷ cs) m = after cs (answer c m).machine
