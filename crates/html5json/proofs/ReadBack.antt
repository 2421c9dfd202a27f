-- A value whose numbers are decimal, and that nests no deeper than a reader goes, is read back.
use Rattle.std.proofs.Common.{◌≡◌, ℕ, ◌-◌, ◌<◌, ◌≤◌, ◌^◌, List, [], ◌∷◌, Option, None, Some, option_map, option_and_then, refl, sym, ap, ◌∙◌, arith, append-nil}
use Rattle.html5ever_interface.specs.Token.{Told}
use Rattle.html5ever_interface.specs.Token.Told.{Text, Null, Error, Tag, Comment, Instruction, Doctype, End}
use Rattle.html5check.specs.Located.{Located}
use Rattle.html5json.specs.Findings.{IsCounted, finding_members, json_of_finding, result_json}
use Rattle.html5json.specs.Lines.{text_of}
use Rattle.html5json.specs.Links.{json_of_link, link_members}
use Rattle.html5json.specs.Reading.{ReadsBack}
use Rattle.html5json.specs.Tokens.{attribute_items, code_word, json_of_option, json_of_token, of_file, token_members}
use Rattle.html5json.proofs.InLine.{HasDecimals, ItemsHaveDecimals, MembersHaveDecimals, print_in_line}
use Rattle.json.specs.Json.{Json, null, boolean, number, string, array, object, Items, no_items, item, Members, no_members, member, value, if_last}
use Rattle.json.specs.Print.{print}
use Rattle.json.specs.Tree.{json_tokens, HasNumbers, ItemsHaveNumbers, MembersHaveNumbers, depth, items_depth, members_depth}
use Rattle.json.proofs.Printed.Decimals.{IsNumber-decimal}
use Rattle.json.proofs.Printed.Tokens.{tokens-print}
use Rattle.json.proofs.Printed.Trees.{ArePrintable-json_tokens, document-print, value-json_tokens}
use Rattle.markup5ever.specs.Names.{AttributeOf}
use Rattle.serde_json.specs.Data as serde
use Rattle.serde_json.specs.Read.{max_depth, number_of, of_json, of_items, of_members, read}
use Rattle.serde_json.proofs.Numbers.{number_of-decimal}

mutual
  numbers : (j : Json) → HasDecimals j → HasNumbers j
  numbers null h = tt
  numbers (boolean b) h = tt
  numbers (number s) h = rw h.2 (IsNumber-decimal h.0 h.1)
  numbers (string s) h = tt
  numbers (array js) h = items_numbers js h
  numbers (object ms) h = members_numbers ms h

  items_numbers : (js : Items) → ItemsHaveDecimals js → ItemsHaveNumbers js
  items_numbers no_items h = tt
  items_numbers (item j js) h = (numbers j h.0, items_numbers js h.1)

  members_numbers : (ms : Members) → MembersHaveDecimals ms → MembersHaveNumbers ms
  members_numbers no_members h = tt
  members_numbers (member k j ms) h = (numbers j h.0, members_numbers ms h.1)

mutual
  data_of : (j : Json) → HasDecimals j → (d : serde.Data) × (of_json j ≡ Some d)
  data_of null h = (serde.null, refl)
  data_of (boolean b) h = (serde.boolean b, refl)
  data_of (number s) h = (serde.number (serde.unsigned h.0), ap (λ t. option_map serde.number (number_of t)) h.2 ∙ ap (option_map serde.number) (number_of-decimal h.0 h.1))
  data_of (string s) h = (serde.string s, refl)
  data_of (array js) h = let d = items_data js h in (serde.array d.0, ap (option_map serde.array) d.1)
  data_of (object ms) h = let d = members_data ms serde.no_members h in (serde.object d.0, ap (option_map serde.object) d.1)

  items_data : (js : Items) → ItemsHaveDecimals js → (ds : serde.Items) × (of_items js ≡ Some ds)
  items_data no_items h = (serde.no_items, refl)
  items_data (item j js) h =
      let first = data_of j h.0 in
      let more = items_data js h.1 in
      (serde.item first.0 more.0, ap (option_and_then (λ d. option_map (serde.item d) (of_items js))) first.1 ∙ ap (option_map (serde.item first.0)) more.1)

  members_data : (ms : Members) (found : serde.Members) → MembersHaveDecimals ms → (ds : serde.Members) × (of_members ms found ≡ Some ds)
  members_data no_members found h = (found, refl)
  members_data (member k j ms) found h =
      let first = data_of j h.0 in
      let more = members_data ms (serde.put k first.0 found) h.1 in
      (more.0, ap (option_and_then (λ d. of_members ms (serde.put k d found))) first.1 ∙ more.1)

read-print : (j : Json) → HasNumbers j → depth j ≤ max_depth → read (print (json_tokens j)) ≡ of_json j
read-print j h shallow =
    ap (λ o. option_and_then of_json (option_and_then (λ p. if_last p.0 p.1) o))
    (ap (value max_depth) (tokens-print (json_tokens j) (ArePrintable-json_tokens j h) ∙ sym (append-nil (json_tokens j)))
    ∙ value-json_tokens j max_depth [] shallow)

reads_back : (j : Json) → HasDecimals j → depth j ≤ max_depth → ReadsBack j
unfolding text_of
reads_back j h shallow =
    let d = data_of j h in
    record {
      is_json = document-print j (numbers j h) (omega arith);
      value = d.0;
      is_value = d.1;
      is_read = read-print j (numbers j h) shallow ∙ d.1;
      is_line = print_in_line j h;
    }

-- ---- tokens

option_decimals : (text : Option (List ℕ)) → HasDecimals (json_of_option text)
option_decimals None = tt
option_decimals (Some text) = tt

option_depth : (text : Option (List ℕ)) → depth (json_of_option text) ≤ 0
option_depth None = omega arith
option_depth (Some text) = omega arith

attribute_decimals : (attributes : List AttributeOf) → ItemsHaveDecimals (attribute_items attributes)
attribute_decimals [] = tt
attribute_decimals (attribute ∷ attributes) = ((tt, (tt, tt)), attribute_decimals attributes)

attribute_depth : (attributes : List AttributeOf) → items_depth (attribute_items attributes) ≤ 1
attribute_depth [] = omega arith
attribute_depth (attribute ∷ attributes) = omega (arith, attribute_depth attributes)

token_decimals : (told : Told) (line : ℕ) → line < 2 ^ 64 → MembersHaveDecimals (token_members told line)
token_decimals (Text text) line h = (tt, (tt, tt))
token_decimals Null line h = (tt, ((line, h, refl), tt))
token_decimals (Error message) line h = (tt, ((line, h, refl), (tt, (option_decimals (code_word message), tt))))
token_decimals (Tag tag) line h = (tt, ((line, h, refl), (tt, (attribute_decimals tag.attributes, (tt, tt)))))
token_decimals (Comment text) line h = (tt, ((line, h, refl), (tt, tt)))
token_decimals (Instruction text) line h = (tt, ((line, h, refl), (tt, tt)))
token_decimals (Doctype d) line h =
    (tt, ((line, h, refl), (option_decimals d.name, (option_decimals d.public_id, (option_decimals d.system_id, (tt, tt))))))
token_decimals End line h = (tt, ((line, h, refl), tt))

token_depth : (told : Told) (line : ℕ) → members_depth (token_members told line) ≤ 2
token_depth (Text text) line = omega arith
token_depth Null line = omega arith
token_depth (Error message) line = omega (arith, option_depth (code_word message))
token_depth (Tag tag) line = omega (arith, attribute_depth tag.attributes)
token_depth (Comment text) line = omega arith
token_depth (Instruction text) line = omega arith
token_depth (Doctype d) line = omega (arith, option_depth d.name, option_depth d.public_id, option_depth d.system_id)
token_depth End line = omega arith

-- members with a file before them
file_decimals : (file : Option (List ℕ)) (ms : Members) → MembersHaveDecimals ms → HasDecimals (of_file file ms)
file_decimals None ms h = h
file_decimals (Some file) ms h = (tt, h)

file_depth : (file : Option (List ℕ)) (ms : Members) → members_depth ms ≤ 2 → depth (of_file file ms) ≤ max_depth
file_depth None ms h = omega (arith, h)
file_depth (Some file) ms h = omega (arith, h)

file_reads_back : (file : Option (List ℕ)) (members : Members) → MembersHaveDecimals members → members_depth members ≤ 2 → ReadsBack (of_file file members)
file_reads_back file members h shallow = reads_back (of_file file members) (file_decimals file members h) (file_depth file members shallow)

pub token_reads_back : (file : Option (List ℕ)) (told : Told) (line : ℕ) → line < 2 ^ 64 → ReadsBack (json_of_token file told line)
token_reads_back file told line h = file_reads_back file (token_members told line) (token_decimals told line h) (token_depth told line)

pub link_reads_back : (file : Option (List ℕ)) (line : ℕ) (link : List ℕ) → line < 2 ^ 64 → ReadsBack (json_of_link file line link)
link_reads_back file line link h = file_reads_back file (link_members line link) ((line, h, refl), (tt, tt)) (omega arith)

-- ---- what is found

finding_decimals : (l : Located) → IsCounted l → MembersHaveDecimals (finding_members l)
finding_decimals l h = (
  (l.position.line, h.line, refl),
  (
    (l.position.column, h.column, refl),
    (
      (l.position.utf16_column, h.utf16_column, refl),
      ((l.finding.begin, h.begin, refl), ((l.finding.end, h.end, refl), (tt, (tt, (option_decimals l.finding.meant, tt))))),
    ),
  ),
)

pub finding_reads_back : (file : List ℕ) (l : Located) → IsCounted l → ReadsBack (json_of_finding file l)
finding_reads_back file l h = file_reads_back (Some file) (finding_members l) (finding_decimals l h) (omega (arith, option_depth l.finding.meant))

result_decimals : (file : List ℕ) (l : Located) → IsCounted l → HasDecimals (result_json file l)
result_decimals file l h =
    let len : l.finding.end - l.finding.begin < 2 ^ 64 = grind (arith, h.end) in (
      tt,
      (
        tt,
        (
          (tt, tt),
          (
            (
              (
                (
                  (tt, tt),
                  (
                    (
                      (l.position.line, h.line, refl),
                      (
                        (l.position.column, h.column, refl),
                        ((l.finding.begin, h.begin, refl), ((l.finding.end - l.finding.begin, len, refl), tt)),
                      ),
                    ),
                    tt,
                  ),
                ),
                tt,
              ),
              tt,
            ),
            tt,
          ),
        ),
      ),
    )

pub result_reads_back : (file : List ℕ) (l : Located) → IsCounted l → ReadsBack (result_json file l)
result_reads_back file l h = reads_back (result_json file l) (result_decimals file l h) (omega arith)
