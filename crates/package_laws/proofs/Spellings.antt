-- Values of JSON with their texts: what is written, and what is read.
use Rattle.std.proofs.Common.{◌≡◌, ℕ, ◌^◌, ◌<◌, ◌≤◌, Bool, true, false, List, Some, option_map, IsUtf8, refl, ap, arith, codes, decimal}
use Rattle.std.proofs.lemmas.Fmt.{IsAscii-decimal}
use Rattle.std.proofs.lemmas.Str.{IsUtf8-nil, IsUtf8-from_ascii}
use Rattle.json.specs.Tree as tree
use Rattle.json.proofs.Printed.Decimals.{IsNumber-decimal}
use Rattle.json.proofs.Printed.Utf8.{IsUtf8-are_ascii}
use Rattle.serde_json.specs.Data.{unsigned, Data, number, string}
use Rattle.serde_json.specs.Read.{of_json}
use Rattle.serde_json.specs.Written.{outline, compact_text, comma_if}
use Rattle.serde_json.proofs.Numbers.{number_of-decimal}
use Rattle.wf_json.specs.Canonical.{text_in_quotes}
use Rattle.wf_events.specs.Plain.{is_plain_text}
use Rattle.wf_events.proofs.PlainTexts.{quoted_plain, IsUtf8-text_in_quotes}

-- a value with its members in the order of the text, the text, and the value that is read
pub record Spelling : Type 0 where
  pub written : Data
  pub text : List ℕ
  pub read : Data

-- the value is written as the text, and read from it. It has no floats, and nests to n at most
pub record IsSpelling (n : ℕ) (s : Spelling) : Type 0 where
  pub text : compact_text s.written ≡ s.text
  pub utf8 : IsUtf8 s.text
  pub numbers : tree.HasNumbers (outline s.written)
  pub shallow : tree.depth (outline s.written) ≤ n
  pub value : of_json (outline s.written) ≡ Some s.read

abbrev pub text_spelling : List ℕ → Spelling
text_spelling t = record { written = string t; text = text_in_quotes t; read = string t }

pub text_spelled : (n : ℕ) (t : List ℕ) → is_plain_text t ≡ true → IsSpelling n (text_spelling t)
text_spelled n t plain = record { text = quoted_plain t plain; utf8 = IsUtf8-text_in_quotes t plain; numbers = tt; shallow = omega arith; value = refl }

abbrev pub number_spelling : ℕ → Spelling
number_spelling p = record { written = number (unsigned p); text = decimal p; read = number (unsigned p) }

pub number_spelled : (n p : ℕ) → p < 2 ^ 64 → IsSpelling n (number_spelling p)
number_spelled n p h = record {
  text = refl;
  utf8 = IsUtf8-from_ascii (decimal p) (IsAscii-decimal p h);
  numbers = IsNumber-decimal p h;
  shallow = omega arith;
  value = ap (option_map number) (number_of-decimal p h);
}

pub comma_utf8 : (later : Bool) → IsUtf8 (comma_if later)
comma_utf8 true = IsUtf8-are_ascii (codes ",") refl
comma_utf8 false = IsUtf8-nil
