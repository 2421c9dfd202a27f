-- No byte gives more than one code point, counted with the bytes that it was begun with.
use Rattle.std.proofs.Common.{◌≡◌, ℕ, ◌+◌, ◌≤◌, Bool, true, false, List, [], ◌∷◌, length, Option, None, Some, refl, arith, length-append}
use Rattle.std.specs.Prelude.{◌||◌, is_some}
use Rattle.std.proofs.lemmas.Bool.Decides.{nat_tests}
use Rattle.html5encodings.specs.declared.encoding.Encoding.{Encoding}
use Rattle.html5encodings.specs.declared.encoding.Encoding.TheVariants as encoding
use Rattle.html5encodings.specs.declared.encoding.SingleByte.{SingleByte}
use Rattle.html5encodings.specs.declared.euc_jp.Lead.{Lead as EucJpLead}
use Rattle.html5encodings.specs.declared.euc_jp.Lead.TheVariants as euc_jp_lead
use Rattle.html5encodings.specs.declared.gb18030.Lead.{Lead as Gb18030Lead}
use Rattle.html5encodings.specs.declared.gb18030.Lead.TheVariants as gb18030_lead
use Rattle.html5encodings.specs.declared.iso_2022_jp.Begun.{Begun}
use Rattle.html5encodings.specs.declared.iso_2022_jp.Begun.TheVariants as begun
use Rattle.html5encodings.specs.declared.iso_2022_jp.Charset.{Charset}
use Rattle.html5encodings.specs.declared.iso_2022_jp.Charset.TheVariants as charset
use Rattle.html5encodings.specs.declared.state.State.{State}
use Rattle.html5encodings.specs.declared.state.State.TheVariants as state
use Rattle.html5encodings.specs.declared.utf16.SharedUtf16.{SharedUtf16}
use Rattle.html5encodings.specs.declared.utf8.Partial.{Partial}
use Rattle.html5encodings.specs.Big5 as big5
use Rattle.html5encodings.specs.Decoding.{at_end, decoded, given, handled, start, state_after}
use Rattle.html5encodings.specs.EucJp as euc_jp
use Rattle.html5encodings.specs.EucKr as euc_kr
use Rattle.html5encodings.specs.Gb18030 as gb18030
use Rattle.html5encodings.specs.IndexJis0212.{index_jis0212}
use Rattle.html5encodings.specs.Iso2022Jp as iso_2022_jp
use Rattle.html5encodings.specs.ShiftJis as shift_jis
use Rattle.html5encodings.specs.SingleByte as single_byte
use Rattle.html5encodings.specs.Steps.{code_point_or_error, code_point_or_restored, error_if}
use Rattle.html5encodings.specs.Utf16 as utf16
use Rattle.html5encodings.specs.Utf8 as utf8

-- ---- how many bytes a decoder holds

abbrev held_if : {X : Type 0} → Option X → ℕ
held_if None = 0
held_if (Some x) = 1

abbrev gb18030_held : Option Gb18030Lead → ℕ
gb18030_held None = 0
gb18030_held (Some (gb18030_lead.First a)) = 1
gb18030_held (Some (gb18030_lead.Second a b)) = 2
gb18030_held (Some (gb18030_lead.Third a b c)) = 3

abbrev iso_2022_jp_held : Begun → ℕ
iso_2022_jp_held begun.Nothing = 0
iso_2022_jp_held (begun.Lead lead) = 1
iso_2022_jp_held begun.Escape = 1
iso_2022_jp_held begun.EscapeDollar = 2
iso_2022_jp_held begun.EscapeParenthesis = 2

abbrev utf16_held : SharedUtf16 → ℕ
utf16_held u = held_if u.lead_byte + held_if u.lead_surrogate

abbrev held : State → ℕ
held (state.Utf8 part) = held_if part
held (state.SingleByte single) = 0
held (state.Gb18030 lead) = gb18030_held lead
held (state.Big5 lead) = held_if lead
held (state.EucJp lead) = held_if lead
held (state.Iso2022Jp j) = iso_2022_jp_held j.begun
held (state.ShiftJis lead) = held_if lead
held (state.EucKr lead) = held_if lead
held (state.Replacement returned) = 0
held (state.Utf16 u) = utf16_held u
held state.UserDefined = 0

-- ---- choices

error_if-room : (b : Bool) → length (error_if b) ≤ 1
error_if-room true = omega arith
error_if-room false = omega arith

or_error-room : (c : Option ℕ) → length (code_point_or_error c) ≤ 1
or_error-room None = omega arith
or_error-room (Some c) = omega arith

or_restored-room : (c : Option ℕ) (byte : ℕ) → length (code_point_or_restored c byte) ≤ 2
or_restored-room None byte = grind (arith, nat_tests)
or_restored-room (Some c) byte = omega arith

-- ---- the decoders of one and two bytes

abbrev HasRoom : {X : Type 0} → ℕ → List ℕ × Option X → Type 0
HasRoom n h = length h.0 + held_if h.1 ≤ n

utf8_alone-room : (x : ℕ) → HasRoom 1 (utf8.alone x)
utf8_alone-room x = grind (arith, nat_tests)

utf8-room : (part : Option Partial) (x : ℕ) → HasRoom (1 + held_if part) (utf8.handled part x)
utf8-room None x = utf8_alone-room x
utf8-room (Some p) x = grind (arith, nat_tests, utf8_alone-room)

single_byte-room : (single : SingleByte) (x : ℕ) → length (single_byte.handled single x) ≤ 1
single_byte-room single x = grind (arith, nat_tests, or_error-room)

shift_jis-room : (lead : Option ℕ) (x : ℕ) → HasRoom (1 + held_if lead) (shift_jis.handled lead x)
shift_jis-room None x = grind (arith, nat_tests)
shift_jis-room (Some lead) x = omega (arith, or_restored-room (shift_jis.code_point_of (shift_jis.pointer_of lead x)) x)

euc_kr-room : (lead : Option ℕ) (x : ℕ) → HasRoom (1 + held_if lead) (euc_kr.handled lead x)
euc_kr-room None x = grind (arith, nat_tests)
euc_kr-room (Some lead) x = omega (arith, or_restored-room (euc_kr.code_point_of lead x) x)

pointed-room : (pointer : Option ℕ) (x : ℕ) → length (big5.pointed pointer x) ≤ 2
pointed-room None x = or_restored-room None x
pointed-room (Some pointer) x = grind (arith, nat_tests, or_restored-room)

big5-room : (lead : Option ℕ) (x : ℕ) → HasRoom (1 + held_if lead) (big5.handled lead x)
big5-room None x = grind (arith, nat_tests)
big5-room (Some lead) x = omega (arith, pointed-room (big5.pointer_of lead x) x)

euc_jp-room : (lead : Option EucJpLead) (x : ℕ) → HasRoom (1 + held_if lead) (euc_jp.handled lead x)
euc_jp-room None x = grind (arith, nat_tests)
euc_jp-room (Some (euc_jp_lead.First lead)) x = grind (arith, nat_tests, or_restored-room)
euc_jp-room (Some (euc_jp_lead.Jis0212 lead)) x = omega (arith, or_restored-room (euc_jp.code_point_of index_jis0212 lead x) x)

-- ---- gb18030

abbrev HasGb18030Room : ℕ → gb18030.Handled → Type 0
HasGb18030Room n h = length h.0 + gb18030_held h.1 ≤ n

gb18030_alone-room : (x : ℕ) → HasGb18030Room 1 (gb18030.alone x)
gb18030_alone-room x = grind (arith, nat_tests)

gb18030_after_first-room : (first x : ℕ) → HasGb18030Room 2 (gb18030.after_first first x)
gb18030_after_first-room first x = grind (arith, nat_tests, or_restored-room)

gb18030-room : (lead : Option Gb18030Lead) (x : ℕ) → HasGb18030Room (1 + gb18030_held lead) (gb18030.handled lead x)
gb18030-room None x = gb18030_alone-room x
gb18030-room (Some (gb18030_lead.First first)) x = gb18030_after_first-room first x
gb18030-room (Some (gb18030_lead.Second first second)) x = grind (arith, nat_tests, gb18030_alone-room)
gb18030-room (Some (gb18030_lead.Third first second third)) x = grind (arith, nat_tests, gb18030_after_first-room, or_error-room)

-- ---- ISO-2022-JP

abbrev HasIso2022JpRoom : ℕ → iso_2022_jp.Handled → Type 0
HasIso2022JpRoom n h = length h.0 + iso_2022_jp_held h.1.begun ≤ n

shown-room : (by : Charset) (x : ℕ) → HasIso2022JpRoom 1 (iso_2022_jp.shown by x)
shown-room charset.Ascii x = omega (arith, or_error-room (iso_2022_jp.ascii_code_point x))
shown-room charset.Roman x = omega (arith, or_error-room (iso_2022_jp.roman_code_point x))
shown-room charset.Katakana x = omega (arith, or_error-room (iso_2022_jp.katakana_code_point x))
shown-room charset.Jis0208 x = grind (arith, nat_tests)

alone-room : (by : Charset) (escaped : Bool) (x : ℕ) → HasIso2022JpRoom 1 (iso_2022_jp.alone by escaped x)
alone-room by escaped x = grind (arith, nat_tests, shown-room)

after_lead-room : (by : Charset) (lead x : ℕ) → HasIso2022JpRoom 2 (iso_2022_jp.after_lead by lead x)
after_lead-room by lead x = grind (arith, nat_tests, or_error-room)

after_escape-room : (by : Charset) (escaped : Bool) (x : ℕ) → HasIso2022JpRoom 2 (iso_2022_jp.after_escape by escaped x)
after_escape-room by escaped x = grind (arith, nat_tests, alone-room)

escaped_to-room : (by : Charset) (escaped : Bool) → HasIso2022JpRoom 3 (iso_2022_jp.escaped_to by escaped)
escaped_to-room by escaped = omega (arith, error_if-room escaped)

in_a_row-room : (by : Charset) (x y : ℕ) → HasIso2022JpRoom 2 (iso_2022_jp.in_a_row by x y)
in_a_row-room by x y =
    omega (arith, shown-room by x, alone-room by false y, length-append (iso_2022_jp.shown by x).0 (iso_2022_jp.alone by false y).0)

both-room : (by : Charset) (x y : ℕ) → HasIso2022JpRoom 2 (iso_2022_jp.both by x y)
both-room charset.Jis0208 x y = after_lead-room charset.Jis0208 x y
both-room charset.Ascii x y = in_a_row-room charset.Ascii x y
both-room charset.Roman x y = in_a_row-room charset.Roman x y
both-room charset.Katakana x y = in_a_row-room charset.Katakana x y

not_escaped-room : (by : Charset) (x y : ℕ) → HasIso2022JpRoom 3 (iso_2022_jp.not_escaped by x y)
not_escaped-room by x y = omega (arith, both-room by x y)

after_dollar-room : (by : Charset) (escaped : Bool) (x : ℕ) → HasIso2022JpRoom 3 (iso_2022_jp.after_dollar by escaped x)
after_dollar-room by escaped x = grind (arith, nat_tests, escaped_to-room, not_escaped-room)

after_parenthesis-room : (by : Charset) (escaped : Bool) (x : ℕ) → HasIso2022JpRoom 3 (iso_2022_jp.after_parenthesis by escaped x)
after_parenthesis-room by escaped x = grind (arith, nat_tests, escaped_to-room, not_escaped-room)

iso_2022_jp-room : (now : Begun) (by : Charset) (escaped : Bool) (x : ℕ) → HasIso2022JpRoom (1 + iso_2022_jp_held now) (iso_2022_jp.handled_after now by escaped x)
iso_2022_jp-room begun.Nothing by escaped x = alone-room by escaped x
iso_2022_jp-room (begun.Lead lead) by escaped x = after_lead-room by lead x
iso_2022_jp-room begun.Escape by escaped x = after_escape-room by escaped x
iso_2022_jp-room begun.EscapeDollar by escaped x = after_dollar-room by escaped x
iso_2022_jp-room begun.EscapeParenthesis by escaped x = after_parenthesis-room by escaped x

restored_at_end-room : (by : Charset) (x : ℕ) → length (iso_2022_jp.restored_at_end by x) ≤ 1
restored_at_end-room charset.Jis0208 x = omega arith
restored_at_end-room charset.Ascii x = omega arith
restored_at_end-room charset.Roman x = omega arith
restored_at_end-room charset.Katakana x = omega arith

iso_2022_jp_end-room : (now : Begun) (by : Charset) → length (iso_2022_jp.at_end_after now by) ≤ iso_2022_jp_held now
iso_2022_jp_end-room begun.Nothing by = omega arith
iso_2022_jp_end-room (begun.Lead lead) by = omega arith
iso_2022_jp_end-room begun.Escape by = omega arith
iso_2022_jp_end-room begun.EscapeDollar by = omega (arith, restored_at_end-room by 0x24)
iso_2022_jp_end-room begun.EscapeParenthesis by = omega (arith, restored_at_end-room by 0x28)

-- ---- UTF-16

unit_alone-room : (unit : ℕ) → HasRoom 1 (utf16.alone unit)
unit_alone-room unit = grind (arith, nat_tests)

unit-room : (lead : Option ℕ) (unit : ℕ) → HasRoom (1 + held_if lead) (utf16.handled_unit lead unit)
unit-room None unit = unit_alone-room unit
unit-room (Some lead) unit = grind (arith, nat_tests, unit_alone-room)

utf16-room : (lead : Option ℕ) (u : SharedUtf16) (x : ℕ)
    → length (utf16.byte_after lead u x).0 + utf16_held (utf16.byte_after lead u x).1 ≤ 1 + (held_if lead + held_if u.lead_surrogate)
utf16-room None u x = omega arith
utf16-room (Some lead) u x = omega (arith, unit-room u.lead_surrogate (utf16.code_unit u.big_endian lead x))

utf16_end-room : (lead surrogate : Option ℕ) → length (error_if (is_some lead || is_some surrogate)) ≤ held_if lead + held_if surrogate
utf16_end-room None None = omega arith
utf16_end-room None (Some s) = omega arith
utf16_end-room (Some l) None = omega arith
utf16_end-room (Some l) (Some s) = omega arith

-- ---- all of them

end_if-room : {X : Type 0} (o : Option X) → length (error_if (is_some o)) ≤ held_if o
end_if-room None = omega arith
end_if-room (Some x) = omega arith

gb18030_end-room : (lead : Option Gb18030Lead) → length (error_if (is_some lead)) ≤ gb18030_held lead
gb18030_end-room None = omega arith
gb18030_end-room (Some (gb18030_lead.First a)) = omega arith
gb18030_end-room (Some (gb18030_lead.Second a b)) = omega arith
gb18030_end-room (Some (gb18030_lead.Third a b c)) = omega arith

handled-room : (from : State) (x : ℕ) → length (handled from x).0 + held (handled from x).1 ≤ 1 + held from
unfolding handled
handled-room (state.Utf8 part) x = utf8-room part x
handled-room (state.SingleByte single) x = omega (arith, single_byte-room single x)
handled-room (state.Gb18030 lead) x = gb18030-room lead x
handled-room (state.Big5 lead) x = big5-room lead x
handled-room (state.EucJp lead) x = euc_jp-room lead x
handled-room (state.Iso2022Jp j) x = iso_2022_jp-room j.begun j.charset j.escaped x
handled-room (state.ShiftJis lead) x = shift_jis-room lead x
handled-room (state.EucKr lead) x = euc_kr-room lead x
handled-room (state.Replacement true) x = omega arith
handled-room (state.Replacement false) x = omega arith
handled-room (state.Utf16 u) x = utf16-room u.lead_byte u x
handled-room state.UserDefined x = grind (arith, nat_tests)

at_end-room : (from : State) → length (at_end from) ≤ held from
unfolding at_end
at_end-room (state.Utf8 part) = end_if-room part
at_end-room (state.SingleByte single) = omega arith
at_end-room (state.Gb18030 lead) = gb18030_end-room lead
at_end-room (state.Big5 lead) = end_if-room lead
at_end-room (state.EucJp lead) = end_if-room lead
at_end-room (state.Iso2022Jp j) = iso_2022_jp_end-room j.begun j.charset
at_end-room (state.ShiftJis lead) = end_if-room lead
at_end-room (state.EucKr lead) = end_if-room lead
at_end-room (state.Replacement returned) = omega arith
at_end-room (state.Utf16 u) = utf16_end-room u.lead_byte u.lead_surrogate
at_end-room state.UserDefined = omega arith

given-room : (from : State) (bytes : List ℕ) → length (given from bytes) + held (state_after from bytes) ≤ length bytes + held from
given-room from [] = omega arith
given-room from (x ∷ xs) =
    let h = handled from x in
    omega (arith, handled-room from x, given-room h.1 xs, length-append h.0 (given h.1 xs))

start-room : (by : Encoding) → held (start by) ≡ 0
start-room encoding.Utf8 = refl
start-room (encoding.SingleByte single) = refl
start-room encoding.Gbk = refl
start-room encoding.Gb18030 = refl
start-room encoding.Big5 = refl
start-room encoding.EucJp = refl
start-room encoding.Iso2022Jp = refl
start-room encoding.ShiftJis = refl
start-room encoding.EucKr = refl
start-room encoding.Replacement = refl
start-room encoding.Utf16Be = refl
start-room encoding.Utf16Le = refl
start-room encoding.XUserDefined = refl

pub decoded-length : (by : Encoding) (bytes : List ℕ) → length (decoded by bytes) ≤ length bytes
decoded-length by bytes =
    let from = start by in
    let left = state_after from bytes in
    omega (arith, given-room from bytes, at_end-room left, start-room by, length-append (given from bytes) (at_end left))
