use Rattle.dialogue.proofs.Sessions.{first_delay, first_width}
use Rattle.dialogue.proofs.session.begin.Goals as goal

pub returns-in_ok-open-in-Delay : goal.returns-in_ok-open-in-Delay
returns-in_ok-open-in-Delay g c = (
  _,
  c.in_ok-print_opening.ensures,
  first_delay g.N.Network.meaning c.args.network c.args.name c.node_count.result c.place_count.result c.node_count.ensures c.place_count.ensures c.in_ok-open-in-Delay.field-0 c.in-Delay.is c.in_ok-open-in-Delay.ensures,
)

pub returns-in_ok-open-in-Width : goal.returns-in_ok-open-in-Width
returns-in_ok-open-in-Width g c = (
  _,
  c.in_ok-print_opening.ensures,
  first_width g.N.Network.meaning c.args.network c.args.name c.node_count.result c.place_count.result c.node_count.ensures c.place_count.ensures c.in_ok-open-in-Width.field-0 c.in-Width.is c.in_ok-open-in-Width.ensures,
)
