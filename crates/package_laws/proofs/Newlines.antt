-- A newline behind a value of JSON changes nothing of what is read.
use Rattle.std.proofs.Common.{◌≡◌, ℕ, ◌≤◌, Bool, true, false, cond, ◌&&◌, List, [], ◌∷◌, ◌++◌, Some, option_and_then, refl, sym, ap, ap₂, ◌∙◌, append_assoc, append-nil, codes}
use Rattle.json.specs.Token.{Token, begin_object, end_object, begin_array, end_array, key, string, number, boolean, null, bad}
use Rattle.json.specs.Word.{ends_word, word}
use Rattle.json.specs.Lex.{Lexeme, token, comma, colon, string_token, lex, between, fresh, punctuate, tokens}
use Rattle.json.specs.Print.{escape, quoted, token_text, begins, ends, separator, print_from, print, IsPrintable, ArePrintable}
use Rattle.json.specs.Json as json
use Rattle.json.specs.Tree as tree
use Rattle.json.proofs.Printed.Strings.{content-escape, lex-escape}
use Rattle.json.proofs.Printed.Numbers.{lex-number, in_word-ended}
use Rattle.json.proofs.Printed.Tokens.{tokens-print}
use Rattle.json.proofs.Printed.Trees.{value-json_tokens, ArePrintable-json_tokens}
use Rattle.serde_json.specs.Data.{Data}
use Rattle.serde_json.specs.Read.{of_json, max_depth, read}
use Rattle.serde_json.specs.Written.{outline, compact_text}
use Rattle.serde_json.proofs.Texts.{print-outline}

-- the lexemes as which a token is read
abbrev token_lexemes : Token → List Lexeme
token_lexemes begin_object = token begin_object ∷ []
token_lexemes end_object = token end_object ∷ []
token_lexemes begin_array = token begin_array ∷ []
token_lexemes end_array = token end_array ∷ []
token_lexemes (key s) = token (string s) ∷ colon ∷ []
token_lexemes (string s) = token (string s) ∷ []
token_lexemes (number s) = token (number s) ∷ []
token_lexemes (boolean b) = token (boolean b) ∷ []
token_lexemes null = token null ∷ []
token_lexemes bad = []

-- a comma, where one stands before a token
abbrev comma_before : Bool → Token → List Lexeme
comma_before later t = cond (later && begins t) (comma ∷ []) []

-- the lexemes as which tokens are read
abbrev lexemes : Bool → List Token → List Lexeme
lexemes later [] = []
lexemes later (t ∷ ts) = comma_before later t ++ (token_lexemes t ++ lexemes (ends t) ts)

-- after a value stands a comma, a closing bracket or what is behind the text
value_ended : (r : List ℕ) → ends_word r ≡ true → (ts : List Token) → ends_word (print_from true ts ++ r) ≡ true
unfolding print_from
value_ended r e [] = e
value_ended r e (begin_object ∷ ts) = refl
value_ended r e (end_object ∷ ts) = refl
value_ended r e (begin_array ∷ ts) = refl
value_ended r e (end_array ∷ ts) = refl
value_ended r e (key s ∷ ts) = refl
value_ended r e (string s ∷ ts) = refl
value_ended r e (number s ∷ ts) = refl
value_ended r e (boolean b ∷ ts) = refl
value_ended r e (null ∷ ts) = refl
value_ended r e (bad ∷ ts) = refl

quoted_read : (s r : List ℕ) → lex between (quoted s ++ r) ≡ token (string s) ∷ lex between r
unfolding lex
quoted_read s r =
    let e = append_assoc (escape s) (34 ∷ []) r in
    ap (λ l. lex between (34 ∷ l)) e ∙ ap₂ (λ o l. token (string_token o) ∷ l) (content-escape s r) (lex-escape s r)

token_read : (t : Token) (r : List ℕ) → IsPrintable t → (ends t ≡ true → ends_word r ≡ true) →
    lex between (token_text t ++ r) ≡ token_lexemes t ++ lex between r
unfolding lex word
token_read begin_object r h ended = refl
token_read end_object r h ended = refl
token_read begin_array r h ended = refl
token_read end_array r h ended = refl
token_read (key s) r h ended = ap (lex between) (append_assoc (quoted s) (58 ∷ []) r) ∙ quoted_read s (58 ∷ r)
token_read (string s) r h ended = quoted_read s r
token_read (number s) r h ended = lex-number s r h (ended refl)
token_read (boolean true) r h ended = ap₂ (λ b l. token (cond b (boolean true) bad) ∷ l) (ended refl) (in_word-ended r (ended refl))
token_read (boolean false) r h ended = ap₂ (λ b l. token (cond b (boolean false) bad) ∷ l) (ended refl) (in_word-ended r (ended refl))
token_read null r h ended = ap₂ (λ b l. token (cond b null bad) ∷ l) (ended refl) (in_word-ended r (ended refl))
token_read bad r h ended = absurd h

separator_read : (later : Bool) (t : Token) (r : List ℕ) → lex between (separator later t ++ r) ≡ comma_before later t ++ lex between r
unfolding lex
separator_read later t r = by (later && begins t)
  where
    by : (b : Bool) → lex between (cond b (44 ∷ []) [] ++ r) ≡ cond b (comma ∷ []) [] ++ lex between r
    by true = refl
    by false = refl

-- tokens are read as they are written, and then what is behind them, if no word goes on there
tokens_read : (later : Bool) (ts : List Token) (r : List ℕ) → ArePrintable ts → ends_word r ≡ true →
    lex between (print_from later ts ++ r) ≡ lexemes later ts ++ lex between r
unfolding print_from ArePrintable
tokens_read later [] r h e = refl
tokens_read later (t ∷ ts) r h e =
    let rest = print_from (ends t) ts in
    let ended : ends t ≡ true → ends_word (rest ++ r) ≡ true = λ q. ap (λ b. ends_word (print_from b ts ++ r)) q ∙ value_ended r e ts in
    ap (lex between) (append_assoc (separator later t) (token_text t ++ rest) r ∙ ap (λ l. separator later t ++ l) (append_assoc (token_text t) rest r))
    ∙ (separator_read later t (token_text t ++ (rest ++ r))
    ∙ (ap (λ l. comma_before later t ++ l) (token_read t (rest ++ r) h.0 ended ∙ ap (λ l. token_lexemes t ++ l) (tokens_read (ends t) ts r h.1 e))
    ∙ sym (append_assoc (comma_before later t) (token_lexemes t ++ lexemes (ends t) ts) (lex between r)
    ∙ ap (λ l. comma_before later t ++ l) (append_assoc (token_lexemes t) (lexemes (ends t) ts) (lex between r)))))

-- so a newline behind them changes nothing
newline_behind : (ts : List Token) → ArePrintable ts → tokens (print ts ++ codes "\n") ≡ tokens (print ts)
unfolding lex
newline_behind ts h =
    ap (punctuate fresh) (tokens_read false ts (codes "\n") h refl ∙ (sym (tokens_read false ts [] h refl) ∙ ap (lex between) (append-nil (print ts))))

-- a value without floats, written without spaces and with a newline behind it, is read as what its members give one after another
pub read_line : (d v : Data) → tree.HasNumbers (outline d) → tree.depth (outline d) ≤ max_depth → of_json (outline d) ≡ Some v →
    read (compact_text d ++ codes "\n") ≡ Some v
read_line d v numbers shallow is =
    let j = outline d in
    let written = tree.json_tokens j in
    let printable = ArePrintable-json_tokens j numbers in
    let same : tokens (compact_text d ++ codes "\n") ≡ written ++ [] =
    ap (λ t. tokens (t ++ codes "\n")) (sym (print-outline d))
    ∙ (newline_behind written printable ∙ (tokens-print written printable ∙ sym (append-nil written))) in
    ap (λ o. option_and_then of_json (option_and_then (λ p. json.if_last p.0 p.1) o))
    (ap (json.value max_depth) same ∙ value-json_tokens j max_depth [] shallow)
    ∙ is
