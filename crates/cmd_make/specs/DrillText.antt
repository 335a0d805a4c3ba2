-- What `drill` writes: the items of a generated run are labelled, pairs of them are drawn, and the verdicts on the pairs are counted.
use Rattle.std.specs.Prelude.{◌≡◌, ℕ, zero, suc, ◌%◌, max, Bool, true, false, List, [], ◌∷◌, ◌++◌, map, length, get_or, count_by, codes, decimal}
use Rattle.rand_pcg.specs.Lcg.{Lcg}
use Rattle.wf_model.specs.Grammar.{Grammar}
use Rattle.wf_model.specs.View.{View}
use Rattle.wf_model.specs.declared.event.Event.{Event}
use Rattle.wf_model.specs.Run.{made}
use Rattle.label_model.specs.Labels.{Label, Input, label_bits}
use Rattle.label_model.specs.RunLabels.{labelled}
use Rattle.verdict_model.specs.declared.verdict.Verdict.{Verdict}
use Rattle.verdict_model.specs.declared.verdict.Verdict.TheVariants.{Hidden1, Hidden2, Clash, Yes, No}
use Rattle.verdict_model.specs.Verdicts.{IsVerdict}
use Rattle.wf_gen.specs.Draws.{draw, drawn}
use Rattle.wf_gen.specs.Turns.{Generated, generated}
use Rattle.wf_message.specs.Endings.{End, Done}
use Rattle.wf_inputs.specs.Inputs.{instance_most}

-- the labels of the items of a run, in order of making
abbrev pub labels_of_run : Grammar → List Event → List Label
labels_of_run g events = map (λ t. t.1) (labelled g events)

-- how many pairs are drawn among so many items: none where there are no items
abbrev pub pair_count : ℕ → ℕ
pair_count zero = 0
pair_count (suc k) = 1000

-- the pair among so many items that two draws pick: the first item, and then the second
abbrev pub pair_drawn : ℕ → Lcg → ℕ × ℕ
pair_drawn items r = (draw r % items, draw (drawn r) % items)

-- so many pairs, one after the other
abbrev pub pairs_drawn : ℕ → ℕ → Lcg → List (ℕ × ℕ)
pairs_drawn zero items r = []
pairs_drawn (suc n) items r = pair_drawn items r ∷ pairs_drawn n items (drawn (drawn r))

-- the label of the item of a number
abbrev pub label_no : List Label → ℕ → Label
label_no labels k = get_or labels k (Input 0)

-- the verdicts on the labels of the items of pairs, one for each pair
abbrev pub AreVerdicts : Grammar → View → List Label → List (ℕ × ℕ) → List Verdict → Type 0
AreVerdicts g u labels [] [] = Unit {0}
AreVerdicts g u labels [] (v ∷ vs) = ⊥
AreVerdicts g u labels (p ∷ ps) [] = ⊥
AreVerdicts g u labels (p ∷ ps) (v ∷ vs) = IsVerdict g u (label_no labels p.0) (label_no labels p.1) v × AreVerdicts g u labels ps vs

-- how many bits the longest of labels has, without those that fill its last byte; 0 where there is none
abbrev pub longest : List Label → ℕ
longest [] = 0
longest (l ∷ ls) = max (length (label_bits l)) (longest ls)

-- which verdicts are counted as yes, as no, and as hidden
abbrev pub is_yes : Verdict → Bool
is_yes Yes = true
is_yes No = false
is_yes Hidden1 = false
is_yes Hidden2 = false
is_yes Clash = false

abbrev pub is_no : Verdict → Bool
is_no Yes = false
is_no No = true
is_no Hidden1 = false
is_no Hidden2 = false
is_no Clash = false

abbrev pub is_hidden : Verdict → Bool
is_hidden Yes = false
is_hidden No = false
is_hidden Hidden1 = true
is_hidden Hidden2 = true
is_hidden Clash = false

-- a line of the summary: a word, and a number
abbrev pub summary_line : List ℕ → ℕ → List ℕ
summary_line word n = word ++ (codes " " ++ (decimal n ++ codes "\n"))

-- the summary: the numbers of instances, of items, of the bits of the longest label, and of verdicts of each kind
abbrev pub summary : ℕ → ℕ → ℕ → List Verdict → List ℕ
summary instances items bits verdicts =
    summary_line (codes "instances") instances ++
    (summary_line (codes "items") items ++
    (summary_line (codes "bits") bits ++
    (summary_line (codes "yes") (count_by is_yes verdicts) ++
    (summary_line (codes "no") (count_by is_no verdicts) ++
    summary_line (codes "hidden") (count_by is_hidden verdicts)))))

-- the pairs that are drawn for a generated run, with the draws that follow its events
abbrev pub pairs_of : Grammar → Generated → List (ℕ × ℕ)
pairs_of g r = let items = length (labels_of_run g r.events) in pairs_drawn (pair_count items) items r.last.draws

-- the text is the summary of a generated run under a view
abbrev pub IsSummary : Grammar → View → Generated → List ℕ → Type 0
IsSummary g u r text =
    let labels = labels_of_run g r.events in
    (verdicts : List Verdict) × AreVerdicts g u labels (pairs_of g r) verdicts × (text ≡ summary (length (made g g.start r.events)) (length labels) (longest labels) verdicts)

-- the summary of the run that a seed gives, of at most n expansions, is written, and that is all
abbrev pub IsDrilled : Grammar → View → ℕ → ℕ → End → List ℕ → Type 0
IsDrilled g u n seed ending text = (ending ≡ Done) × IsSummary g u (generated g n seed instance_most) text
