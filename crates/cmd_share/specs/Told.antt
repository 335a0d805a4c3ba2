-- What `compare` writes of two safe views of one grammar.
use Rattle.std.specs.Prelude.{◌≡◌, ℕ, List, [], None, codes}
use Rattle.wf_model.specs.declared.numbers.ModNo.{ModNo}
use Rattle.wf_model.specs.Grammar.{Grammar, Assignment}
use Rattle.wf_model.specs.View.{View}
use Rattle.wf_model.specs.Safe.{IsFull}
use Rattle.compare_model.specs.declared.compared.Compared.{Compared}
use Rattle.compare_model.specs.Coarser.{IsCoarser, IsFirstExpandedAlone}
use Rattle.compare_model.specs.Comparison.{IsCompared}
use Rattle.wf_compare.specs.declared.fault.CompareFault.TheVariants.{NotCoarser}
use Rattle.wf_compare.specs.FaultText.{compare_text}
use Rattle.wf_compare.specs.ComparedText.{compared_text}
use Rattle.wf_message.specs.Endings.{End, Done, Refused}

-- The view u and the view c, which is to be coarser: the pair is refused by the least module that c expands and u does not; or c is coarser, and what the two come to is written
pub data ComparesViews (g : Grammar) (u c : View) (ending : End) (text : List ℕ) : Type 0 where
  not_coarser : (m : ModNo) → IsFirstExpandedAlone c u m.0 → ending ≡ Refused (codes "coarse") None (compare_text g (NotCoarser m)) → text ≡ [] → ComparesViews g u c ending text
  told : IsCoarser c u → (d : Assignment) → IsFull g u d → (x : Compared) → IsCompared g c d x → ending ≡ Done → text ≡ compared_text g x → ComparesViews g u c ending text
