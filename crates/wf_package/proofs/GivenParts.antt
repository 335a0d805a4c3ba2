-- What is given to a module, by the rows of its pairs.
use Rattle.std.proofs.Common.{◌≡◌, ℕ, ◌<◌, ◌==◌, Bool, true, false, cond, List, [], ◌∷◌, length, get_or, sym, ap, ap₂, ◌∙◌, arith}
use Rattle.std.specs.Int.{bit_at}
use Rattle.wf_model.specs.Grammar.{Grammar, Given, inputs_of, outputs_of}
use Rattle.wf_model.specs.View.{View, expands, shows}
use Rattle.wf_view.specs.Held.{AreShownRows}
use Rattle.package_model.specs.Shown.{pairs_within}
use Rattle.wf_package.specs.Parts.{all_pairs_pass, pairs_part, given_part}
use Rattle.wf_package.proofs.PairRows.{pairs_within-same, all_pairs_pass-same}

module _ (g : Grammar) (u : View) (m : ℕ) (rows : List ℕ) (outs : ℕ) (held : AreShownRows g u m rows) (all : outs ≡ outputs_of g m) where
  abbrev bits : ℕ → ℕ → Bool
  bits i o = bit_at (get_or rows i 0) o == 1

  same : (i o : ℕ) → i < length rows → o < outs → bits i o ≡ shows u m i o
  same i o hi ho = held.bits i o (omega (arith, held.one_each)) (omega (arith, all))

  -- the rows have all bits exactly if the view shows all pairs
  pub rows_full : all_pairs_pass (length rows) outs bits ≡ all_pairs_pass (inputs_of g m) (outputs_of g m) (shows u m)
  rows_full = all_pairs_pass-same (length rows) outs bits (shows u m) same ∙ ap₂ (λ a b. all_pairs_pass a b (shows u m)) held.one_each all

  -- and their bits are its pairs
  pub rows_pairs : pairs_within (length rows) outs bits ≡ pairs_within (inputs_of g m) (outputs_of g m) (shows u m)
  rows_pairs = pairs_within-same (length rows) outs bits (shows u m) same ∙ ap₂ (λ a b. pairs_within a b (shows u m)) held.one_each all

  given_by : (k : ℕ) (b : Bool) → expands u m ≡ false → all_pairs_pass (length rows) outs bits ≡ b → given_part g u k m ≡ cond b [] (record { module_no = k; pairs = pairs_within (length rows) outs bits } ∷ [])
  given_by k b shut full =
      ap (λ e. cond {A = List Given} e [] (pairs_part k (inputs_of g m) (outputs_of g m) (shows u m))) shut
      ∙ ap (λ f. cond {A = List Given} f [] (record { module_no = k; pairs = pairs_within (inputs_of g m) (outputs_of g m) (shows u m) } ∷ [])) (sym rows_full ∙ full)
      ∙ ap (λ (ps : List (ℕ × ℕ)). cond {A = List Given} b [] (record { module_no = k; pairs = ps } ∷ [])) (sym rows_pairs)

  -- nothing is given to a module whose rows have all bits
  pub given_none : (k : ℕ) → expands u m ≡ false → all_pairs_pass (length rows) outs bits ≡ true → given_part g u k m ≡ []
  given_none k shut full = given_by k true shut full

  -- and to one whose rows have not, the pairs of their bits
  pub given_some : (k : ℕ) → expands u m ≡ false → all_pairs_pass (length rows) outs bits ≡ false → given_part g u k m ≡ record { module_no = k; pairs = pairs_within (length rows) outs bits } ∷ []
  given_some k shut full = given_by k false shut full

-- nothing is given to a module that is expanded
pub given_open : (g : Grammar) (u : View) (k m : ℕ) → expands u m ≡ true → given_part g u k m ≡ []
given_open g u k m opened = ap (λ e. cond {A = List Given} e [] (pairs_part k (inputs_of g m) (outputs_of g m) (shows u m))) opened

-- what is given, by its parts
pub given_is : (d : Given) (k : ℕ) (ps : List (ℕ × ℕ)) → d.module_no ≡ k → d.pairs ≡ ps → d ≡ record { module_no = k; pairs = ps }
given_is d k ps numbered paired = ap (λ n. record { module_no = n; pairs = d.pairs }) numbered ∙ ap (λ (l : List (ℕ × ℕ)). record { module_no = k; pairs = l }) paired
