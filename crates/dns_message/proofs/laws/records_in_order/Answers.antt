use Rattle.dns_message.proofs.Order.{records_in_order}
use Rattle.dns_message.proofs.laws.records_in_order.Goals as goal

pub returns : goal.returns
returns c = records_in_order
