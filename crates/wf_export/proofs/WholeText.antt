-- The whole text, from the table.
use Rattle.std.proofs.Common.{◌≡◌, ◌++◌, ℕ, List, Option, ap, ◌∙◌}
use Rattle.wf_model.specs.Grammar.{Grammar}
use Rattle.wf_model.specs.View.{View}
use Rattle.wf_flat.specs.Table.{Table, events_of}
use Rattle.wf_flat.specs.Shown.{RunSeen}
use Rattle.wf_export.specs.ExportText.{instances_text, items_text, export_text}
use Rattle.wf_export.specs.Shown.{IsRunSeen, AreLinksSeen, held_items_text, seen_links_text}
use Rattle.wf_export.proofs.ItemLines.{items_told}
use Rattle.wf_export.proofs.LinkLines.{links_told}

pub text_told : (g : Grammar) (u : View) (t : Table) (rows : List (Option (List ℕ))) (shown : RunSeen) → IsRunSeen g u t shown → AreLinksSeen g u t rows shown →
    instances_text g u (events_of t) ++ (held_items_text g t shown.opens ++ seen_links_text g shown rows t.instances) ≡ export_text g u (events_of t)
text_told g u t rows shown seen links =
    ap (λ x. instances_text g u (events_of t) ++ (x ++ seen_links_text g shown rows t.instances)) (items_told g u t shown seen)
    ∙ ap (λ x. instances_text g u (events_of t) ++ (items_text g u (events_of t) ++ x)) (links_told g u t rows shown seen.run links)
