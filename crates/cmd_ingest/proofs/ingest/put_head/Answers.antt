use Rattle.std.proofs.Common.{[], ◌++◌, ap, ◌∙◌}
use Rattle.sha2.specs.Sha256.{sha256}
use Rattle.wf_json.specs.Canonical.{canonical_of}
use Rattle.wf_spec.specs.Held.{HeldGrammar}
use Rattle.label_model.specs.Files.{head_bytes}
use Rattle.wf_stage.proofs.Ends.{begins_nothing}
use Rattle.wf_stage.proofs.Writing.{writes_wanting, writes_text}
use Rattle.cmd_ingest.proofs.ingest.put_head.Goals as goal

pub returns-in_default : goal.returns-in_default
returns-in_default g c = record { writes = writes_wanting [] _ (begins_nothing _) _ }

pub returns-in_default-append_head : goal.returns-in_default-append_head
returns-in_default-append_head g c = record { writes = writes_wanting [] _ (begins_nothing _) _ }

pub returns : goal.returns
returns g c = record {
  writes =
      writes_text _ _ (c.deref.ensures.value ∙ (c.in-Ok-append_head.ensures.head ∙ (ap (λ l. l ++ head_bytes c.in-Ok.digest) c.new-head.ensures.items ∙ ap head_bytes (c.in-Ok.ensures ∙ ap (λ (h : HeldGrammar). sha256 (canonical_of h.core)) c.grammar.ensures.grammar)))) _ _ _ c.put_text.ensures.writes;
}
