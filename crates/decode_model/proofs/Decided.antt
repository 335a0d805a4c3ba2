-- The last row tells whether one address reaches another.
use Rattle.std.proofs.Common.{◌↔◌, ℕ, List, [], ◌∷◌, ◌++◌, subst, append-nil}
use Rattle.wf_model.specs.Grammar.{Grammar, Assignment}
use Rattle.wf_model.specs.Reach.{Step, module_along, Down, Up, Reaches}
use Rattle.wf_laws.proofs.Splits.{down_rows, up_columns, past_common}
use Rattle.decode_model.specs.Legs.{way_steps}
use Rattle.decode_model.specs.DecidedLaws.{DecidedLaw}
use Rattle.decode_model.proofs.Crossing.{crosses_law}
use Rattle.decode_model.proofs.LastRows.{rows_law, down_rows_law, up_rows_law}

both : {A B C : Type 0} → A ↔ B → B ↔ C → A ↔ C
both e f = ((λ h. f.0 (e.0 h)), λ h. e.1 (f.1 h))

turned : {A B : Type 0} → A ↔ B → B ↔ A
turned e = (e.1, e.0)

-- the first address ends where the common beginning does
below : (g : Grammar) (d : Assignment) (m : ℕ) (p b : List Step) (i o : ℕ) → Reaches g d m p (p ++ b) i o ↔ Down g d (module_along g m p) b i o
below g d m p b i o = subst (λ z. Reaches g d m z (p ++ b) i o ↔ Down g d (module_along g m p) b i o) (append-nil p) (past_common g d p [] b m i o)

alone : (g : Grammar) (d : Assignment) (m : ℕ) (a : List Step) (i o : ℕ) → Reaches g d m a [] i o ↔ Up g d m a i o
alone g d m [] i o = ((λ h. h), λ h. h)
alone g d m (s ∷ a) i o = ((λ h. h), λ h. h)

-- the second does
above : (g : Grammar) (d : Assignment) (m : ℕ) (p a : List Step) (i o : ℕ) → Reaches g d m (p ++ a) p i o ↔ Up g d (module_along g m p) a i o
above g d m p a i o =
    subst (λ z. Reaches g d m (p ++ a) z i o ↔ Up g d (module_along g m p) a i o) (append-nil p) (both (past_common g d p a [] m i o) (alone g d (module_along g m p) a i o))

pub decided_law : DecidedLaw
decided_law g u d v are m p =
    let n = module_along g m p in
    record {
      across = λ s t a b os ot same differ xa xb i o last li lo through.
          both (rows_law g u d v are s t a b os ot same xa xb i o last li lo through) (turned (crosses_law g d m p s t (way_steps a) (way_steps b) i o differ));
      down = λ seen b xb i o first last li lo one through.
          both (down_rows_law g u d v are n seen b xb i o first last li lo one through) (turned (both (below g d m p (way_steps b) i o) (down_rows g d (way_steps b) n i o)));
      up = λ seen a xa i o last li lo through.
          both (up_rows_law g u d v are n seen a xa i o last li lo through) (turned (both (above g d m p (way_steps a) i o) (up_columns g d (way_steps a) n i o)));
    }
