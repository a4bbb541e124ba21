-- What a call on a port means that is given as a value of the code's enum.
use Rattle.devices.specs.Apbuart.{Port, Answer, read, write, offer}
use Rattle.devices.specs.declared.apbuart.Call.{Call}
use Rattle.devices.specs.declared.apbuart.Call.TheVariants.{Read, Write, Offer}

abbrev pub answer_to : Call → Port → Answer
answer_to (Read offset) p = read offset p
answer_to (Write offset value) p = write offset value p
answer_to (Offer byte) p = offer byte p
