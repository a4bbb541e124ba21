-- Each arm that is no function of its own by its law. Assumes nothing.
use Rattle.bus.proofs.Laws.Route.{carries_out, named_there, refused_outcome, short_outcome, reset_outcome}
use Rattle.bus.proofs.machine.Machine.follow.Goals as goal

pub call_port-reply-requires : goal.call_port-reply-requires
call_port-reply-requires g c = named_there _ _ _ c.requires.port_is_there c.in-Port.is

pub returns-in-Refused : goal.returns-in-Refused
returns-in-Refused g c = let says = rw c.number.ensures at c.refused.ensures in search (carries_out, refused_outcome)

pub returns-in-Some : goal.returns-in-Some
returns-in-Some g c = search (carries_out, short_outcome)

pub returns-in-Reset : goal.returns-in-Reset
returns-in-Reset g c = search (carries_out, reset_outcome)
