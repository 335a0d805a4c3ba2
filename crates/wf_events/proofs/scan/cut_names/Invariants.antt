use Rattle.std.proofs.Common.{◌≡◌, ◌<◌, ◌++◌, true, codes, length}
use Rattle.std.specs.List.{join_by, list_all}
use Rattle.wf_json.specs.Canonical.{text_in_quotes}
use Rattle.wf_events.specs.Plain.{is_plain_text}
use Rattle.wf_events.proofs.scan.cut_names.Given as goal

abbrev pub invariant-loop-name : goal.invariant-loop-name
invariant-loop-name l = record {
  some : 0 < length l.names.items;
  whole : l.bytes ≡ join_by text_in_quotes (codes ",") l.names.items ++ l.left;
  plain : list_all is_plain_text l.names.items ≡ true;
}

abbrev pub decreases-loop-name : goal.decreases-loop-name
decreases-loop-name l = length l.left
