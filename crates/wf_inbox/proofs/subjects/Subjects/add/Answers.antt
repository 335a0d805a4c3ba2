use Rattle.std.proofs.Common.{◌∙◌, ap, sym, ◌++◌, ◌∷◌, [], option_map}
use Rattle.std.specs.Prelude.{position}
use Rattle.wf_inbox.proofs.Found.{key_added}
use Rattle.wf_inbox.proofs.subjects.Subjects.add.Goals as goal

pub returns-clause-added : goal.returns-clause-added
returns-clause-added c =
    key_added (λ k. k.bytes.now) c.key_of.result (option_map (λ n. n.now) c.args.name) c.self.inside.numbers.keys c.insert.new.self.keys c.key_of.ensures (sym c.requires ∙ ap (position _) (sym c.self.view_is)) c.in_ok-insert.ensures.keys
    ∙ ap (λ v. v ++ option_map (λ n. n.now) c.args.name ∷ []) c.self.view_is
