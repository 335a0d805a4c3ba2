-- The text of a chain, in a file of its own, has the lines of the chain.
use Rattle.std.proofs.Common.{◌≡◌, ℕ, suc, ◌+◌, ◌≤◌, List, [], ◌∷◌, ◌++◌, map, flat_map, length, codes, refl, sym, ap, ◌∙◌, subst, inl, inr, ⊎_elim, arith, append_assoc, append-nil, length-append}
use Rattle.wf_model.specs.Lists.{IsIn}
use Rattle.wf_model.specs.Grammar.{Grammar, Assignment}
use Rattle.wf_model.specs.WellFormed.{IsWellFormed, IsShortName}
use Rattle.wf_model.specs.View.{View}
use Rattle.wf_model.specs.declared.event.Event.{Event}
use Rattle.wf_model.specs.Run.{IsNameByte, IsAccepted}
use Rattle.wf_model.specs.Items.{Item, IsItemName}
use Rattle.wf_model.proofs.Lists.{in_append_cases}
use Rattle.wf_model.proofs.ItemNames.{dotted_at}
use Rattle.wf_io.specs.Lines.{FileLines, AtEnd, lines_in}
use Rattle.wf_lines.specs.LineStages.{AllTaken}
use Rattle.chain_model.specs.Chains.{ChainStep, StepsLead, IsItemChain}
use Rattle.chain_model.specs.ChainText.{name_line, step_lines, chain_text}
use Rattle.wf_reason.specs.declared.turn.Turn.{Turn}
use Rattle.wf_reason.specs.declared.turn.Turn.TheVariants.{Item as ItemTurn, Instance as ViaTurn}
use Rattle.wf_reason.specs.ChainLines.{ChainLine, ItemLine, ViaLine, next_turn, turn_behind, Says, lines_of_step, lines_of}
use Rattle.wf_reason.specs.HandedIn.{HandedLine, said, chain_ends, TakesHanded, RefusesHanded, TellsLines}
use Rattle.wf_reason.specs.Laws.{ChainFileLaw}
use Rattle.wf_reason.specs.Examples.{numbered}
use Rattle.wf_reason.proofs.LineLists.{turn_further}
use Rattle.wf_reason.proofs.NamesInRuns.{instance_short, item_short}
use Rattle.wf_reason.proofs.Rows.{IsRow, rows_text, numbered_rows, AreRows, row_text, row_short, rows_in}

-- the row that says a line
abbrev row_of : ChainLine → List ℕ
row_of (ItemLine name) = name
row_of (ViaLine name) = codes "via " ++ name

-- each line is one of its turn
abbrev AreTurns : Turn → List ChainLine → Type 0
AreTurns t [] = Unit {0}
AreTurns t (l ∷ ls) = Says t (row_of l) l × AreTurns (next_turn t) ls

-- a byte of a name ends no line
newline_no_byte : IsNameByte 10 → ⊥
newline_no_byte h = grind (arith, h)

return_no_byte : IsNameByte 13 → ⊥
return_no_byte h = grind (arith, h)

name_row : (n : List ℕ) → IsShortName n → IsRow n
name_row n h = let few = h.1 in record { some = h.0.0; few = omega arith; no_newline = λ i. newline_no_byte (h.0.1 10 i); no_return = λ i. return_no_byte (h.0.1 13 i) }

-- two parts make a row where what stands between them does
two_rows : (a b : List ℕ) → IsRow a → IsRow b → length a + length b ≤ 65536 → IsRow (a ++ b)
two_rows a b ha hb few =
    let size = length-append a b in
    let some = ha.some in
    record {
      some = omega (arith, size);
      few = omega (arith, size);
      no_newline = λ i. ⊎_elim ha.no_newline hb.no_newline (in_append_cases 10 a b i);
      no_return = λ i. ⊎_elim ha.no_return hb.no_return (in_append_cases 13 a b i);
    }

dot_row : IsRow (codes ".")
dot_row = record { some = omega arith; few = omega arith; no_newline = λ i. ⊎_elim (λ e. absurd (omega arith)) (λ j. j) i; no_return = λ i. ⊎_elim (λ e. absurd (omega arith)) (λ j. j) i }

via_row : IsRow (codes "via ")
via_row = record { some = omega arith; few = omega arith; no_newline = λ i. newline i; no_return = λ i. return i }
  where
    newline : IsIn 10 (codes "via ") → ⊥
    newline (inl e) = absurd (omega arith)
    newline (inr (inl e)) = absurd (omega arith)
    newline (inr (inr (inl e))) = absurd (omega arith)
    newline (inr (inr (inr (inl e)))) = absurd (omega arith)
    newline (inr (inr (inr (inr e)))) = absurd e

    return : IsIn 13 (codes "via ") → ⊥
    return (inl e) = absurd (omega arith)
    return (inr (inl e)) = absurd (omega arith)
    return (inr (inr (inl e))) = absurd (omega arith)
    return (inr (inr (inr (inl e)))) = absurd (omega arith)
    return (inr (inr (inr (inr e)))) = absurd e

item_row : (n : List ℕ) → IsItemName n → IsRow n
item_row n h =
    let a = h.2.1.1 in
    let b = h.2.2.1 in
    let size = length-append (codes ".") h.1 in
    subst IsRow (sym (h.2.0 ∙ dotted_at h.0 h.1)) (two_rows h.0 (codes "." ++ h.1) (name_row h.0 h.2.1) (two_rows (codes ".") h.1 dot_row (name_row h.1 h.2.2) (omega arith)) (omega (arith, size)))

-- a line of its turn is a row
turn_row : (t : Turn) (l : ChainLine) → Says t (row_of l) l → IsRow (row_of l)
turn_row ItemTurn (ItemLine name) h = item_row name h.1
turn_row ItemTurn (ViaLine name) h = absurd h
turn_row ViaTurn (ItemLine name) h = absurd h
turn_row ViaTurn (ViaLine name) h = let few = h.1.1 in two_rows (codes "via ") name via_row (name_row name h.1) (omega arith)

turns_rows : (t : Turn) (ls : List ChainLine) → AreTurns t ls → AreRows (map row_of ls)
turns_rows t [] h row i = absurd i
turns_rows t (l ∷ ls) h row (inl e) = subst IsRow (sym e) (turn_row t l h.0)
turns_rows t (l ∷ ls) h row (inr i) = turns_rows (next_turn t) ls h.1 row i

-- such rows are taken, and say the lines
handed : (s : List HandedLine) (k : ℕ) (ls : List ChainLine) → AreTurns (turn_behind ItemTurn s) ls → AllTaken chain_ends TakesHanded RefusesHanded s (numbered_rows k (map row_of ls)) (s ++ numbered k ls) []
handed s k [] h = (append-nil s, refl)
handed s k (l ∷ ls) h =
    let row = turn_row (turn_behind ItemTurn s) l h.0 in
    let first : HandedLine = record { number = k; says = l } in
    let rest = handed (s ++ first ∷ []) (suc k) ls (subst (λ t. AreTurns t ls) (sym (turn_further ItemTurn s first)) h.1) in (
      s ++ first ∷ [],
      [],
      [],
      (row_short (row_of l) row, (l, subst (λ text. Says (turn_behind ItemTurn s) text l) (sym (row_text (row_of l) row)) h.0, refl, refl)),
      subst (λ z. AllTaken chain_ends TakesHanded RefusesHanded (s ++ first ∷ []) (numbered_rows (suc k) (map row_of ls)) z []) (append_assoc s (first ∷ []) (numbered (suc k) ls)) rest,
      refl,
    )

said_are : (k : ℕ) (ls : List ChainLine) → said (numbered k ls) ≡ ls
said_are k [] = refl
said_are k (l ∷ ls) = ap (λ (z : List ChainLine). l ∷ z) (said_are (suc k) ls)

-- the text of steps is that of their rows
steps_text : (steps : List ChainStep) → flat_map step_lines steps ≡ rows_text (map row_of (flat_map lines_of_step steps))
steps_text [] = refl
steps_text (s ∷ steps) =
    let rest = flat_map step_lines steps in
    let via : List ℕ = codes "via " ++ s.via.name in
    append_assoc (codes "via ") (s.via.name ++ (codes "\n" ++ name_line s.item)) rest ∙
    (ap (λ z. codes "via " ++ z) (append_assoc s.via.name (codes "\n" ++ name_line s.item) rest) ∙
    (sym (append_assoc (codes "via ") s.via.name (codes "\n" ++ (name_line s.item ++ rest))) ∙
    (sym (append_assoc (codes "via " ++ s.via.name) (codes "\n") (name_line s.item ++ rest)) ∙
    ap (λ z. ((codes "via " ++ s.via.name) ++ codes "\n") ++ (name_line s.item ++ z)) (steps_text steps))))

chain_rows : (x : Item) (steps : List ChainStep) → chain_text x steps ≡ rows_text (map row_of (lines_of x steps))
chain_rows x steps = ap (λ z. name_line x ++ z) (steps_text steps)

module _ (g : Grammar) (u : View) (d : Assignment) (limit : ℕ) (events : List Event) (wf : IsWellFormed g) (run : IsAccepted g limit events) where
  step_turns : (x y : Item) (steps : List ChainStep) → StepsLead g u d g.start events x steps y → AreTurns ViaTurn (flat_map lines_of_step steps)
  step_turns x y [] h = tt
  step_turns x y (s ∷ steps) h = ((refl, instance_short g limit events run u s.via h.0.through.seen), ((refl, item_short g limit events run wf s.item h.0.there), step_turns s.item y steps h.1))

  chain_turns : (x y : Item) (steps : List ChainStep) → IsItemChain g u d g.start events x steps y → AreTurns ItemTurn (lines_of x steps)
  chain_turns x y steps h = ((refl, item_short g limit events run wf x h.there), step_turns x y steps h.steps_lead)

pub chain_file_law : ChainFileLaw
chain_file_law g u d limit wf events run x y steps chain file whole bytes short =
    let ls = lines_of x steps in
    let turns = chain_turns g u d limit events wf run x y steps chain in
    let e : lines_in file ≡ record { lines = numbered_rows 1 (map row_of (lines_of x steps)); tail = AtEnd } = rows_in file (map row_of (lines_of x steps)) (turns_rows ItemTurn (lines_of x steps) turns) whole (bytes ∙ chain_rows x steps) short in
    (numbered 1 (lines_of x steps), subst (λ (f : FileLines). TellsLines f (numbered 1 (lines_of x steps))) (sym e) (record { whole = refl; taken = handed [] 1 (lines_of x steps) turns }), said_are 1 (lines_of x steps))
