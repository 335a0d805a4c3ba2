-- Lists that are made of one element after another: one element more.
use Rattle.std.proofs.Common.{◌≡◌, ℕ, ◌+◌, ◌<◌, List, [], ◌∷◌, ◌++◌, map, flat_map, take, length, get_or, codes, sym, ap, ◌∙◌, append_assoc}
use Rattle.std.proofs.lemmas.List.{map-append, take_more, flat_map_more}
use Rattle.wf_model.specs.Grammar.{Grammar}
use Rattle.wf_model.specs.declared.numbers.ProdNo.{ProdNo}
use Rattle.wf_model.specs.declared.event.Event.{Event}
use Rattle.wf_events.specs.Spelling.{event_text}
use Rattle.wf_gen.specs.Lines.{event_line}
use Rattle.wf_compare.specs.declared.steps.Leading.{Leading}
use Rattle.wf_compare.specs.Steps.{leadings_by}

abbrev number_of : ProdNo → ℕ
number_of p = p.0

-- the steps of one production more
pub leadings_more : (g : Grammar) (ps : List ProdNo) (k : ℕ) (d : ProdNo) (before after : List Leading) → k < length ps → before ≡ flat_map (leadings_by g) (map number_of (take k ps)) → after ≡ before ++ leadings_by g (get_or ps k d).0
    → after ≡ flat_map (leadings_by g) (map number_of (take (k + 1) ps))
leadings_more g ps k d before after below so_far added =
    added ∙ ap (λ l. l ++ leadings_by g (get_or ps k d).0) so_far
    ∙ flat_map_more (leadings_by g) [] (map number_of (take k ps)) (get_or ps k d).0
    ∙ ap (flat_map (leadings_by g)) (sym (map-append number_of (take k ps) (get_or ps k d ∷ [])) ∙ ap (map number_of) (sym (take_more ps k d below)))

-- the line of one event more
pub events_more : (run : List Event) (k : ℕ) (e : Event) (initial before between after : List ℕ) → k < length run → e ≡ get_or run k e → before ≡ initial ++ flat_map event_line (take k run) → between ≡ before ++ event_text e
    → after ≡ between ++ codes "\n" → after ≡ initial ++ flat_map event_line (take (k + 1) run)
events_more run k e initial before between after below is so_far written ended =
    ended ∙ ap (λ l. l ++ codes "\n") written ∙ append_assoc before (event_text e) (codes "\n") ∙ ap (λ l. l ++ event_line e) so_far
    ∙ flat_map_more event_line initial (take k run) e
    ∙ ap (λ l. initial ++ flat_map event_line l) (ap (λ y. take k run ++ y ∷ []) is ∙ sym (take_more run k e below))
