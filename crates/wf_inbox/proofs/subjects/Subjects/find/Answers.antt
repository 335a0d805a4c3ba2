use Rattle.std.proofs.Common.{subst, bytes_eq}
use Rattle.std.specs.Option.{option_eq}
use Rattle.std.specs.List.{IsDistinct}
use Rattle.wf_inbox.proofs.Found.{found_place, keys_differ}
use Rattle.wf_inbox.proofs.subjects.Subjects.find.Goals as goal

pub returns-clause-place : goal.returns-clause-place
returns-clause-place c = found_place (λ k. k.bytes.now) c.key_of-key.result c.self.inside.numbers.keys _ _ c.get_index_of.result c.get_index_of.ensures.index c.key_of-key.ensures c.self.view_is

pub returns-clause-once : goal.returns-clause-once
returns-clause-once c = subst (IsDistinct (option_eq bytes_eq)) c.self.view_is (keys_differ (λ k. k.bytes.now) c.self.inside.numbers.keys c.self.invariant)
