-- By the variant. Assumes nothing.
use Rattle.std.proofs.Common.{rules}
use Rattle.bus.specs.Private.{read_route, write_route}
use Rattle.bus.proofs.route.Leading.{route, leads}
use Rattle.bus.proofs.route.Route.of.Goals as goal

pub returns-in-Read : goal.returns-in-Read
unfolding route
returns-in-Read c = let led = c.access.ensures read_route (λ d o r p. search rules) in search leads

pub returns-in-Write : goal.returns-in-Write
unfolding route
returns-in-Write c = let led = c.access-in-Write.ensures (write_route c.in-Write.value) (λ d o r p. search rules) in search leads

pub returns-in-Offer : goal.returns-in-Offer
unfolding route
returns-in-Offer c = search leads

pub returns-in-Advance : goal.returns-in-Advance
unfolding route
returns-in-Advance c = search leads

pub returns-in-Skip : goal.returns-in-Skip
unfolding route
returns-in-Skip c = search leads

pub returns-in-Reset : goal.returns-in-Reset
unfolding route
returns-in-Reset c = search leads

pub returns-in-Acknowledge : goal.returns-in-Acknowledge
unfolding route
returns-in-Acknowledge c = search leads

pub returns-in-Malformed : goal.returns-in-Malformed
unfolding route
returns-in-Malformed c = search leads
