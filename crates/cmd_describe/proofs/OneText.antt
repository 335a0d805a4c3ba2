-- A strictly linear grammar has one text, whatever a ranking says of its atomic modules.
use Rattle.std.proofs.Common.{◌≡◌, ℕ, zero, suc, ◌+◌, ◌<◌, ◌≤◌, Bool, true, false, cond, List, ◌∷◌, ◌++◌, length, get_or, Option, None, refl, sym, ap, ◌∙◌, arith}
use Rattle.std.specs.Prelude.{codes, decimal, filter, flat_map}
use Rattle.wf_model.specs.Lists.{numbers_from}
use Rattle.wf_model.specs.Composite.{is_composite}
use Rattle.wf_model.specs.Grammar.{Grammar, IsComposite, module_at}
use Rattle.wf_model.specs.Linear.{IsLinear}
use Rattle.wf_model.proofs.Composites.{composite_gives}
use Rattle.wf_check.specs.Proper.{Ranking, IsRankingOf}
use Rattle.wf_check.proofs.OneRanking.{one_rank, one_choice}
use Rattle.wf_json.specs.Canonical.{canonical_of}
use Rattle.wf_message.specs.Endings.{End}
use Rattle.wf_recur.specs.Cycles.{OnSeen, CyclesSeen, AreCyclesOf}
use Rattle.wf_stage.specs.Ends.{IsWritten}
use Rattle.wf_recur.proofs.OneCycles.{one_told}
use Rattle.cmd_describe.specs.CheckText.{cycle_text, check_line, check_text_of}
use Rattle.cmd_describe.specs.Does.{IsChecked}

module _ (g : Grammar) (linear : IsLinear g) (r s : Ranking) (p : IsRankingOf g r) (q : IsRankingOf g s) (c d : CyclesSeen) (u : AreCyclesOf g c) (v : AreCyclesOf g d) where
  -- a line by its numbers and its cycle
  abbrev line_by : ℕ → ℕ → ℕ → Option OnSeen → List ℕ
  line_by m rank choice on =
      (module_at g m).name ++ (codes " rank " ++ (decimal rank ++ (codes " production " ++ (decimal choice ++ (cycle_text g on ++ codes "\n")))))

  -- the line of a composite module is one
  one_line : (m : ℕ) → m < length g.modules → IsComposite g m → check_line g r c m ≡ check_line g s d m
  one_line m h composite =
      ap (λ n. line_by m n (get_or r.choices m 0) (get_or c.on m None)) (one_rank g m (get_or r.ranks m 0) (get_or s.ranks m 0) (p.ranks m h) (q.ranks m h))
      ∙ (ap (λ n. line_by m (get_or s.ranks m 0) n (get_or c.on m None)) (one_choice g m (get_or r.choices m 0) (get_or s.choices m 0) (p.choices m composite) (q.choices m composite))
      ∙ ap (λ o. line_by m (get_or s.ranks m 0) (get_or s.choices m 0) o) (one_told g linear c d u v m h))

  -- so are those of a module, if it is composite, and of others
  line_and_rest : (k : ℕ) (rest : List ℕ) (b : Bool) → is_composite g k ≡ b → k < length g.modules → flat_map (check_line g r c) rest ≡ flat_map (check_line g s d) rest → flat_map (check_line g r c) (cond b (k ∷ rest) rest) ≡ flat_map (check_line g s d) (cond b (k ∷ rest) rest)
  line_and_rest k rest true e h later = ap (λ l. l ++ flat_map (check_line g r c) rest) (one_line k h (composite_gives g k e)) ∙ ap (λ l. check_line g s d k ++ l) later
  line_and_rest k rest false e h later = later

  -- so are those of all
  lines_from : (k n : ℕ) → k + n ≤ length g.modules → flat_map (check_line g r c) (filter (is_composite g) (numbers_from k n)) ≡ flat_map (check_line g s d) (filter (is_composite g) (numbers_from k n))
  lines_from k zero h = refl
  lines_from k (suc n) h = line_and_rest k (filter (is_composite g) (numbers_from (suc k) n)) (is_composite g k) refl (omega arith) (lines_from (suc k) n (omega arith))

  -- and the whole text
  pub one_text : check_text_of g r c ≡ check_text_of g s d
  one_text = ap (λ l. canonical_of g ++ (codes "\n" ++ l)) (lines_from 0 (length g.modules) (omega arith))

-- what writes the text of a grammar, by one ranking and one list of its cycles, writes what the grammar is checked by
module _ (g : Grammar) (linear : IsLinear g) (r : Ranking) (c : CyclesSeen) (text : List ℕ) (ranking : IsRankingOf g r) (cycles : AreCyclesOf g c) (is : text ≡ check_text_of g r c) where
  -- each text of the grammar is this one
  pub this_text : (e : End) (t : List ℕ) → IsChecked g e t → IsWritten text e t
  this_text e t h = (h.0, h.1.4 ∙ (one_text g linear h.1.0 r h.1.2 ranking h.1.1 c h.1.3 cycles ∙ sym is))

  -- and this one is one of the grammar
  pub text_told : (e : End) (t : List ℕ) → IsWritten text e t → IsChecked g e t
  text_told e t h = (h.0, (r, c, ranking, cycles, h.1 ∙ is))
