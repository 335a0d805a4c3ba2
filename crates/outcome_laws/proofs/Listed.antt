-- What is listed over the label file of a run is what the run answers yes to.
use Rattle.std.specs.Prelude.{codes}
use Rattle.wf_inputs.proofs.OneLabels.{told_differ}
use Rattle.wf_lineage.proofs.Answered.{answers_yes_law}
use Rattle.cmd_ingest.specs.Ingested.{file_of}
use Rattle.outcome_laws.specs.Laws.{ListedLaw}
use Rattle.outcome_laws.proofs.LabelsTell.{labels_tell_law}

pub listed_law : ListedLaw
listed_law h u viewed g one_of e taken entries told item other names =
    let yes = answers_yes_law h.core u entries (told_differ h (file_of g e) entries told) item other names in
    let from = labels_tell_law h u viewed g one_of e taken entries told other item (codes "yes") in
    let to = labels_tell_law h u viewed g one_of e taken entries told item other (codes "yes") in
    record {
      lineage = λ listed. (λ i. from.0 ((yes.upstream listed).0 i), λ a. (yes.upstream listed).1 (from.1 a));
      impact = λ listed. (λ i. to.0 ((yes.downstream listed).0 i), λ a. (yes.downstream listed).1 (to.1 a));
    }
