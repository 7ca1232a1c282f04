-- Only the one connection is written.
use Rattle.std.proofs.Common.{slice_get}
use Rattle.mac_order.specs.Step.{after_arrive, after_send, after_close}
use Rattle.mac_order.proofs.Steps.{on_connection-other}
use Rattle.mac_order.proofs.laws.connections_are_apart.Goals as goal

pub returns-clause-arrive : goal.returns-clause-arrive
returns-clause-arrive g c state number other job apart = on_connection-other state number other (slice_get state.connections number) (after_arrive job) apart

pub returns-clause-send : goal.returns-clause-send
returns-clause-send g c state number other apart = on_connection-other state number other (slice_get state.connections number) (after_send g.S.Service.reply_to) apart

pub returns-clause-close : goal.returns-clause-close
returns-clause-close g c state number other apart = on_connection-other state number other (slice_get state.connections number) after_close apart
