-- The number and the value of what the code answers: "Where an answer is an enum, a definition sets out this paper's number and
-- values for each of its cases."
use Rattle.std.specs.Prelude.{ℕ, Result, Ok, Err}
use Rattle.devices.specs.Refusal.{not_refused, number_of}
use Rattle.devices.specs.Answer.{Answer}
use Rattle.devices.specs.declared.refusal.Refusal.{Refusal}
use Rattle.devices.specs.declared.answer.Answer as code

abbrev pub number_in : {T : Type 0} → Result T Refusal → ℕ
number_in (Ok done) = not_refused
number_in (Err refusal) = number_of refusal

abbrev pub value_in : Result ℕ Refusal → ℕ
value_in (Ok value) = value
value_in (Err refusal) = 0

abbrev pub answer_of : {D : Type 0} → code.Answer D ℕ → Answer D
answer_of a = record { refusal = number_in a.outcome; value = value_in a.outcome; device = a.device }
