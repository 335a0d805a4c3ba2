-- The laws of the first of the shortest routes, from their parts.
use Rattle.compare_model.specs.RouteLaws.{FirstRouteLaw}
use Rattle.compare_model.proofs.FirstRoutes.{seen_route, some_shortest, one_shortest, start_shortest}
use Rattle.compare_model.proofs.ShortRoutes.{fewer_steps}

pub first_route_law : FirstRouteLaw
first_route_law g c wf m seen = record {
  some = (let a = seen_route g c m seen in some_shortest g c m a.0 a.1);
  one = one_shortest g c m;
  short = λ a f. fewer_steps g c m a f wf;
  to_start = start_shortest g c m;
}
