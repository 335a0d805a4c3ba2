-- Texts for each composite module in order.
use Rattle.std.proofs.Common.{◌≡◌, ℕ, ◌+◌, Bool, cond, List, [], ◌++◌, sym, ap, ◌∙◌, arith, append_assoc}
use Rattle.std.specs.Prelude.{filter, flat_map, decimal}
use Rattle.wf_model.specs.Lists.{numbers_from}
use Rattle.cmd_describe.proofs.NumberedTexts.{texts_tested, text_more}

-- the text of one number more was appended, if it passes the test
pub appended_more : (f : ℕ → List ℕ) (test : ℕ → Bool) (k : ℕ) (start before after : List ℕ) → before ≡ start ++ flat_map f (filter test (numbers_from 0 k)) → after ≡ before ++ cond (test k) (f k) []
    → after ≡ start ++ flat_map f (filter test (numbers_from 0 (k + 1)))
appended_more f test k start before after so_far more =
    text_more (λ j. cond (test j) (f j) []) k start before after (so_far ∙ ap (λ t. start ++ t) (texts_tested f test (numbers_from 0 k))) more
    ∙ ap (λ t. start ++ t) (sym (texts_tested f test (numbers_from 0 (k + 1))))

-- a name, two pieces with numbers behind them, and two more were appended
pub line_made : (old a b c d e name named one two on end : List ℕ) (m n r p : ℕ) → named ≡ name → m ≡ r → n ≡ p → a ≡ old ++ named → b ≡ a ++ (one ++ decimal m) → c ≡ b ++ (two ++ decimal n) → d ≡ c ++ on → e ≡ d ++ end
    → e ≡ old ++ (name ++ (one ++ (decimal r ++ (two ++ (decimal p ++ (on ++ end))))))
line_made old a b c d e name named one two on end m n r p name_is rank choice h i j k l =
    let f = h ∙ ap (λ t. old ++ t) name_is in
    let s = i ∙ ap (λ t. a ++ (one ++ decimal t)) rank in
    let t = j ∙ ap (λ t. b ++ (two ++ decimal t)) choice in
    grind (arith, append_assoc {A = ℕ})
