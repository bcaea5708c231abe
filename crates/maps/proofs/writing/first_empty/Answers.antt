use Rattle.std.proofs.Common.{length, not, is_some, refl, sym, ◌∙◌, arith, rules, tests}
use Rattle.std.proofs.lemmas.Iterator.{YieldsList-from_range}
use Rattle.std.proofs.lemmas.Iterator.Adapters.{option_map_id}
use Rattle.std.proofs.lemmas.Iterator.Search.{find_from_yields_List}
use Rattle.definitions.specs.Networks.{place}
use Rattle.maps.proofs.writing.first_empty.Goals as goal

pub returns : goal.returns
returns g c =
    let ps = (g.N.Network.meaning c.args.network.now).places in
    sym (option_map_id c.find.result)
    ∙ find_from_yields_List (λ k. not (is_some (place ps k))) _ _ c.find.result c.find.ensures.ran (YieldsList-from_range 0 c.place_count.result (length ps) refl (omega arith)) (λ x b q k. search (rules, tests))
