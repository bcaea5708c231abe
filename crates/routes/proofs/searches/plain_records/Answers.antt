use Rattle.std.proofs.Common.{rules, ◌≡◌, ◌<◌, length, subst}
use Rattle.definitions.specs.Plans.{plain}
use Rattle.routes.specs.Records.{Recorded}
use Rattle.routes.proofs.searches.plain_records.Goals as goal

pub returns-in_err-t : goal.returns-in_err-t
returns-in_err-t g c = record { found = search rules; count = search rules; destination = search rules; refused = search rules }

pub returns-in_err-plain_tables : goal.returns-in_err-plain_tables
returns-in_err-plain_tables g c = record { found = search rules; count = search rules; destination = search rules; refused = search rules }

pub returns : goal.returns
returns g c =
    let net = g.N.Network.meaning c.args.network.now in
    let found = c.in_ok-plain_tables.ensures.found in
    let same : c.in_ok-t.t ≡ c.args.destination = search rules in
    let all : length c.args.records.now ≡ 256 = search rules in
    record {
      found = subst (λ t. (t < net.nodes) × (length c.args.records.now ≡ 256) × Recorded (plain g.M.Measure.scale) net t c.plain_tables.new.records) same
          (found.inside, all, record { labels = found.labels; links = found.nexts });
      count = search rules;
      destination = search rules;
      refused = search rules;
    }
