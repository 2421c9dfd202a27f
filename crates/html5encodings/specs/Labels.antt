-- "Names and labels". By tools/gen/encodings.py.
use Rattle.std.specs.Prelude.{ℕ, List, [], ◌∷◌, codes}
use Rattle.html5encodings.specs.declared.encoding.Encoding.{Encoding}
use Rattle.html5encodings.specs.declared.encoding.Encoding.TheVariants as encoding
use Rattle.html5encodings.specs.declared.encoding.SingleByte.{SingleByte}
use Rattle.html5encodings.specs.declared.encoding.SingleByte.TheVariants as single

-- the name of a single-byte encoding
abbrev pub single_byte_name_of : SingleByte → List ℕ
single_byte_name_of single.Ibm866 = codes "IBM866"
single_byte_name_of single.Iso8859_2 = codes "ISO-8859-2"
single_byte_name_of single.Iso8859_3 = codes "ISO-8859-3"
single_byte_name_of single.Iso8859_4 = codes "ISO-8859-4"
single_byte_name_of single.Iso8859_5 = codes "ISO-8859-5"
single_byte_name_of single.Iso8859_6 = codes "ISO-8859-6"
single_byte_name_of single.Iso8859_7 = codes "ISO-8859-7"
single_byte_name_of single.Iso8859_8 = codes "ISO-8859-8"
single_byte_name_of single.Iso8859_8I = codes "ISO-8859-8-I"
single_byte_name_of single.Iso8859_10 = codes "ISO-8859-10"
single_byte_name_of single.Iso8859_13 = codes "ISO-8859-13"
single_byte_name_of single.Iso8859_14 = codes "ISO-8859-14"
single_byte_name_of single.Iso8859_15 = codes "ISO-8859-15"
single_byte_name_of single.Iso8859_16 = codes "ISO-8859-16"
single_byte_name_of single.Koi8R = codes "KOI8-R"
single_byte_name_of single.Koi8U = codes "KOI8-U"
single_byte_name_of single.Macintosh = codes "macintosh"
single_byte_name_of single.Windows874 = codes "windows-874"
single_byte_name_of single.Windows1250 = codes "windows-1250"
single_byte_name_of single.Windows1251 = codes "windows-1251"
single_byte_name_of single.Windows1252 = codes "windows-1252"
single_byte_name_of single.Windows1253 = codes "windows-1253"
single_byte_name_of single.Windows1254 = codes "windows-1254"
single_byte_name_of single.Windows1255 = codes "windows-1255"
single_byte_name_of single.Windows1256 = codes "windows-1256"
single_byte_name_of single.Windows1257 = codes "windows-1257"
single_byte_name_of single.Windows1258 = codes "windows-1258"
single_byte_name_of single.XMacCyrillic = codes "x-mac-cyrillic"

-- the name of an encoding
abbrev pub name_of : Encoding → List ℕ
name_of (encoding.SingleByte s) = single_byte_name_of s
name_of encoding.Utf8 = codes "UTF-8"
name_of encoding.Gbk = codes "GBK"
name_of encoding.Gb18030 = codes "gb18030"
name_of encoding.Big5 = codes "Big5"
name_of encoding.EucJp = codes "EUC-JP"
name_of encoding.Iso2022Jp = codes "ISO-2022-JP"
name_of encoding.ShiftJis = codes "Shift_JIS"
name_of encoding.EucKr = codes "EUC-KR"
name_of encoding.Replacement = codes "replacement"
name_of encoding.Utf16Be = codes "UTF-16BE"
name_of encoding.Utf16Le = codes "UTF-16LE"
name_of encoding.XUserDefined = codes "x-user-defined"

-- the labels, each with its encoding
unfoldable pub labels : List (List ℕ × Encoding)
labels =
    (codes "unicode-1-1-utf-8", encoding.Utf8) ∷
    (codes "unicode11utf8", encoding.Utf8) ∷
    (codes "unicode20utf8", encoding.Utf8) ∷
    (codes "utf-8", encoding.Utf8) ∷
    (codes "utf8", encoding.Utf8) ∷
    (codes "x-unicode20utf8", encoding.Utf8) ∷
    (codes "866", encoding.SingleByte single.Ibm866) ∷
    (codes "cp866", encoding.SingleByte single.Ibm866) ∷
    (codes "csibm866", encoding.SingleByte single.Ibm866) ∷
    (codes "ibm866", encoding.SingleByte single.Ibm866) ∷
    (codes "csisolatin2", encoding.SingleByte single.Iso8859_2) ∷
    (codes "iso-8859-2", encoding.SingleByte single.Iso8859_2) ∷
    (codes "iso-ir-101", encoding.SingleByte single.Iso8859_2) ∷
    (codes "iso8859-2", encoding.SingleByte single.Iso8859_2) ∷
    (codes "iso88592", encoding.SingleByte single.Iso8859_2) ∷
    (codes "iso_8859-2", encoding.SingleByte single.Iso8859_2) ∷
    (codes "iso_8859-2:1987", encoding.SingleByte single.Iso8859_2) ∷
    (codes "l2", encoding.SingleByte single.Iso8859_2) ∷
    (codes "latin2", encoding.SingleByte single.Iso8859_2) ∷
    (codes "csisolatin3", encoding.SingleByte single.Iso8859_3) ∷
    (codes "iso-8859-3", encoding.SingleByte single.Iso8859_3) ∷
    (codes "iso-ir-109", encoding.SingleByte single.Iso8859_3) ∷
    (codes "iso8859-3", encoding.SingleByte single.Iso8859_3) ∷
    (codes "iso88593", encoding.SingleByte single.Iso8859_3) ∷
    (codes "iso_8859-3", encoding.SingleByte single.Iso8859_3) ∷
    (codes "iso_8859-3:1988", encoding.SingleByte single.Iso8859_3) ∷
    (codes "l3", encoding.SingleByte single.Iso8859_3) ∷
    (codes "latin3", encoding.SingleByte single.Iso8859_3) ∷
    (codes "csisolatin4", encoding.SingleByte single.Iso8859_4) ∷
    (codes "iso-8859-4", encoding.SingleByte single.Iso8859_4) ∷
    (codes "iso-ir-110", encoding.SingleByte single.Iso8859_4) ∷
    (codes "iso8859-4", encoding.SingleByte single.Iso8859_4) ∷
    (codes "iso88594", encoding.SingleByte single.Iso8859_4) ∷
    (codes "iso_8859-4", encoding.SingleByte single.Iso8859_4) ∷
    (codes "iso_8859-4:1988", encoding.SingleByte single.Iso8859_4) ∷
    (codes "l4", encoding.SingleByte single.Iso8859_4) ∷
    (codes "latin4", encoding.SingleByte single.Iso8859_4) ∷
    (codes "csisolatincyrillic", encoding.SingleByte single.Iso8859_5) ∷
    (codes "cyrillic", encoding.SingleByte single.Iso8859_5) ∷
    (codes "iso-8859-5", encoding.SingleByte single.Iso8859_5) ∷
    (codes "iso-ir-144", encoding.SingleByte single.Iso8859_5) ∷
    (codes "iso8859-5", encoding.SingleByte single.Iso8859_5) ∷
    (codes "iso88595", encoding.SingleByte single.Iso8859_5) ∷
    (codes "iso_8859-5", encoding.SingleByte single.Iso8859_5) ∷
    (codes "iso_8859-5:1988", encoding.SingleByte single.Iso8859_5) ∷
    (codes "arabic", encoding.SingleByte single.Iso8859_6) ∷
    (codes "asmo-708", encoding.SingleByte single.Iso8859_6) ∷
    (codes "csiso88596e", encoding.SingleByte single.Iso8859_6) ∷
    (codes "csiso88596i", encoding.SingleByte single.Iso8859_6) ∷
    (codes "csisolatinarabic", encoding.SingleByte single.Iso8859_6) ∷
    (codes "ecma-114", encoding.SingleByte single.Iso8859_6) ∷
    (codes "iso-8859-6", encoding.SingleByte single.Iso8859_6) ∷
    (codes "iso-8859-6-e", encoding.SingleByte single.Iso8859_6) ∷
    (codes "iso-8859-6-i", encoding.SingleByte single.Iso8859_6) ∷
    (codes "iso-ir-127", encoding.SingleByte single.Iso8859_6) ∷
    (codes "iso8859-6", encoding.SingleByte single.Iso8859_6) ∷
    (codes "iso88596", encoding.SingleByte single.Iso8859_6) ∷
    (codes "iso_8859-6", encoding.SingleByte single.Iso8859_6) ∷
    (codes "iso_8859-6:1987", encoding.SingleByte single.Iso8859_6) ∷
    (codes "csisolatingreek", encoding.SingleByte single.Iso8859_7) ∷
    (codes "ecma-118", encoding.SingleByte single.Iso8859_7) ∷
    (codes "elot_928", encoding.SingleByte single.Iso8859_7) ∷
    (codes "greek", encoding.SingleByte single.Iso8859_7) ∷
    (codes "greek8", encoding.SingleByte single.Iso8859_7) ∷
    (codes "iso-8859-7", encoding.SingleByte single.Iso8859_7) ∷
    (codes "iso-ir-126", encoding.SingleByte single.Iso8859_7) ∷
    (codes "iso8859-7", encoding.SingleByte single.Iso8859_7) ∷
    (codes "iso88597", encoding.SingleByte single.Iso8859_7) ∷
    (codes "iso_8859-7", encoding.SingleByte single.Iso8859_7) ∷
    (codes "iso_8859-7:1987", encoding.SingleByte single.Iso8859_7) ∷
    (codes "sun_eu_greek", encoding.SingleByte single.Iso8859_7) ∷
    (codes "csiso88598e", encoding.SingleByte single.Iso8859_8) ∷
    (codes "csisolatinhebrew", encoding.SingleByte single.Iso8859_8) ∷
    (codes "hebrew", encoding.SingleByte single.Iso8859_8) ∷
    (codes "iso-8859-8", encoding.SingleByte single.Iso8859_8) ∷
    (codes "iso-8859-8-e", encoding.SingleByte single.Iso8859_8) ∷
    (codes "iso-ir-138", encoding.SingleByte single.Iso8859_8) ∷
    (codes "iso8859-8", encoding.SingleByte single.Iso8859_8) ∷
    (codes "iso88598", encoding.SingleByte single.Iso8859_8) ∷
    (codes "iso_8859-8", encoding.SingleByte single.Iso8859_8) ∷
    (codes "iso_8859-8:1988", encoding.SingleByte single.Iso8859_8) ∷
    (codes "visual", encoding.SingleByte single.Iso8859_8) ∷
    (codes "csiso88598i", encoding.SingleByte single.Iso8859_8I) ∷
    (codes "iso-8859-8-i", encoding.SingleByte single.Iso8859_8I) ∷
    (codes "logical", encoding.SingleByte single.Iso8859_8I) ∷
    (codes "csisolatin6", encoding.SingleByte single.Iso8859_10) ∷
    (codes "iso-8859-10", encoding.SingleByte single.Iso8859_10) ∷
    (codes "iso-ir-157", encoding.SingleByte single.Iso8859_10) ∷
    (codes "iso8859-10", encoding.SingleByte single.Iso8859_10) ∷
    (codes "iso885910", encoding.SingleByte single.Iso8859_10) ∷
    (codes "l6", encoding.SingleByte single.Iso8859_10) ∷
    (codes "latin6", encoding.SingleByte single.Iso8859_10) ∷
    (codes "iso-8859-13", encoding.SingleByte single.Iso8859_13) ∷
    (codes "iso8859-13", encoding.SingleByte single.Iso8859_13) ∷
    (codes "iso885913", encoding.SingleByte single.Iso8859_13) ∷
    (codes "iso-8859-14", encoding.SingleByte single.Iso8859_14) ∷
    (codes "iso8859-14", encoding.SingleByte single.Iso8859_14) ∷
    (codes "iso885914", encoding.SingleByte single.Iso8859_14) ∷
    (codes "csisolatin9", encoding.SingleByte single.Iso8859_15) ∷
    (codes "iso-8859-15", encoding.SingleByte single.Iso8859_15) ∷
    (codes "iso8859-15", encoding.SingleByte single.Iso8859_15) ∷
    (codes "iso885915", encoding.SingleByte single.Iso8859_15) ∷
    (codes "iso_8859-15", encoding.SingleByte single.Iso8859_15) ∷
    (codes "l9", encoding.SingleByte single.Iso8859_15) ∷
    (codes "iso-8859-16", encoding.SingleByte single.Iso8859_16) ∷
    (codes "cskoi8r", encoding.SingleByte single.Koi8R) ∷
    (codes "koi", encoding.SingleByte single.Koi8R) ∷
    (codes "koi8", encoding.SingleByte single.Koi8R) ∷
    (codes "koi8-r", encoding.SingleByte single.Koi8R) ∷
    (codes "koi8_r", encoding.SingleByte single.Koi8R) ∷
    (codes "koi8-ru", encoding.SingleByte single.Koi8U) ∷
    (codes "koi8-u", encoding.SingleByte single.Koi8U) ∷
    (codes "csmacintosh", encoding.SingleByte single.Macintosh) ∷
    (codes "mac", encoding.SingleByte single.Macintosh) ∷
    (codes "macintosh", encoding.SingleByte single.Macintosh) ∷
    (codes "x-mac-roman", encoding.SingleByte single.Macintosh) ∷
    (codes "dos-874", encoding.SingleByte single.Windows874) ∷
    (codes "iso-8859-11", encoding.SingleByte single.Windows874) ∷
    (codes "iso8859-11", encoding.SingleByte single.Windows874) ∷
    (codes "iso885911", encoding.SingleByte single.Windows874) ∷
    (codes "tis-620", encoding.SingleByte single.Windows874) ∷
    (codes "windows-874", encoding.SingleByte single.Windows874) ∷
    (codes "cp1250", encoding.SingleByte single.Windows1250) ∷
    (codes "windows-1250", encoding.SingleByte single.Windows1250) ∷
    (codes "x-cp1250", encoding.SingleByte single.Windows1250) ∷
    (codes "cp1251", encoding.SingleByte single.Windows1251) ∷
    (codes "windows-1251", encoding.SingleByte single.Windows1251) ∷
    (codes "x-cp1251", encoding.SingleByte single.Windows1251) ∷
    (codes "ansi_x3.4-1968", encoding.SingleByte single.Windows1252) ∷
    (codes "ascii", encoding.SingleByte single.Windows1252) ∷
    (codes "cp1252", encoding.SingleByte single.Windows1252) ∷
    (codes "cp819", encoding.SingleByte single.Windows1252) ∷
    (codes "csisolatin1", encoding.SingleByte single.Windows1252) ∷
    (codes "ibm819", encoding.SingleByte single.Windows1252) ∷
    (codes "iso-8859-1", encoding.SingleByte single.Windows1252) ∷
    (codes "iso-ir-100", encoding.SingleByte single.Windows1252) ∷
    (codes "iso8859-1", encoding.SingleByte single.Windows1252) ∷
    (codes "iso88591", encoding.SingleByte single.Windows1252) ∷
    (codes "iso_8859-1", encoding.SingleByte single.Windows1252) ∷
    (codes "iso_8859-1:1987", encoding.SingleByte single.Windows1252) ∷
    (codes "l1", encoding.SingleByte single.Windows1252) ∷
    (codes "latin1", encoding.SingleByte single.Windows1252) ∷
    (codes "us-ascii", encoding.SingleByte single.Windows1252) ∷
    (codes "windows-1252", encoding.SingleByte single.Windows1252) ∷
    (codes "x-cp1252", encoding.SingleByte single.Windows1252) ∷
    (codes "cp1253", encoding.SingleByte single.Windows1253) ∷
    (codes "windows-1253", encoding.SingleByte single.Windows1253) ∷
    (codes "x-cp1253", encoding.SingleByte single.Windows1253) ∷
    (codes "cp1254", encoding.SingleByte single.Windows1254) ∷
    (codes "csisolatin5", encoding.SingleByte single.Windows1254) ∷
    (codes "iso-8859-9", encoding.SingleByte single.Windows1254) ∷
    (codes "iso-ir-148", encoding.SingleByte single.Windows1254) ∷
    (codes "iso8859-9", encoding.SingleByte single.Windows1254) ∷
    (codes "iso88599", encoding.SingleByte single.Windows1254) ∷
    (codes "iso_8859-9", encoding.SingleByte single.Windows1254) ∷
    (codes "iso_8859-9:1989", encoding.SingleByte single.Windows1254) ∷
    (codes "l5", encoding.SingleByte single.Windows1254) ∷
    (codes "latin5", encoding.SingleByte single.Windows1254) ∷
    (codes "windows-1254", encoding.SingleByte single.Windows1254) ∷
    (codes "x-cp1254", encoding.SingleByte single.Windows1254) ∷
    (codes "cp1255", encoding.SingleByte single.Windows1255) ∷
    (codes "windows-1255", encoding.SingleByte single.Windows1255) ∷
    (codes "x-cp1255", encoding.SingleByte single.Windows1255) ∷
    (codes "cp1256", encoding.SingleByte single.Windows1256) ∷
    (codes "windows-1256", encoding.SingleByte single.Windows1256) ∷
    (codes "x-cp1256", encoding.SingleByte single.Windows1256) ∷
    (codes "cp1257", encoding.SingleByte single.Windows1257) ∷
    (codes "windows-1257", encoding.SingleByte single.Windows1257) ∷
    (codes "x-cp1257", encoding.SingleByte single.Windows1257) ∷
    (codes "cp1258", encoding.SingleByte single.Windows1258) ∷
    (codes "windows-1258", encoding.SingleByte single.Windows1258) ∷
    (codes "x-cp1258", encoding.SingleByte single.Windows1258) ∷
    (codes "x-mac-cyrillic", encoding.SingleByte single.XMacCyrillic) ∷
    (codes "x-mac-ukrainian", encoding.SingleByte single.XMacCyrillic) ∷
    (codes "chinese", encoding.Gbk) ∷
    (codes "csgb2312", encoding.Gbk) ∷
    (codes "csiso58gb231280", encoding.Gbk) ∷
    (codes "gb2312", encoding.Gbk) ∷
    (codes "gb_2312", encoding.Gbk) ∷
    (codes "gb_2312-80", encoding.Gbk) ∷
    (codes "gbk", encoding.Gbk) ∷
    (codes "iso-ir-58", encoding.Gbk) ∷
    (codes "x-gbk", encoding.Gbk) ∷
    (codes "gb18030", encoding.Gb18030) ∷
    (codes "big5", encoding.Big5) ∷
    (codes "big5-hkscs", encoding.Big5) ∷
    (codes "cn-big5", encoding.Big5) ∷
    (codes "csbig5", encoding.Big5) ∷
    (codes "x-x-big5", encoding.Big5) ∷
    (codes "cseucpkdfmtjapanese", encoding.EucJp) ∷
    (codes "euc-jp", encoding.EucJp) ∷
    (codes "x-euc-jp", encoding.EucJp) ∷
    (codes "csiso2022jp", encoding.Iso2022Jp) ∷
    (codes "iso-2022-jp", encoding.Iso2022Jp) ∷
    (codes "csshiftjis", encoding.ShiftJis) ∷
    (codes "ms932", encoding.ShiftJis) ∷
    (codes "ms_kanji", encoding.ShiftJis) ∷
    (codes "shift-jis", encoding.ShiftJis) ∷
    (codes "shift_jis", encoding.ShiftJis) ∷
    (codes "sjis", encoding.ShiftJis) ∷
    (codes "windows-31j", encoding.ShiftJis) ∷
    (codes "x-sjis", encoding.ShiftJis) ∷
    (codes "cseuckr", encoding.EucKr) ∷
    (codes "csksc56011987", encoding.EucKr) ∷
    (codes "euc-kr", encoding.EucKr) ∷
    (codes "iso-ir-149", encoding.EucKr) ∷
    (codes "korean", encoding.EucKr) ∷
    (codes "ks_c_5601-1987", encoding.EucKr) ∷
    (codes "ks_c_5601-1989", encoding.EucKr) ∷
    (codes "ksc5601", encoding.EucKr) ∷
    (codes "ksc_5601", encoding.EucKr) ∷
    (codes "windows-949", encoding.EucKr) ∷
    (codes "csiso2022kr", encoding.Replacement) ∷
    (codes "hz-gb-2312", encoding.Replacement) ∷
    (codes "iso-2022-cn", encoding.Replacement) ∷
    (codes "iso-2022-cn-ext", encoding.Replacement) ∷
    (codes "iso-2022-kr", encoding.Replacement) ∷
    (codes "replacement", encoding.Replacement) ∷
    (codes "unicodefffe", encoding.Utf16Be) ∷
    (codes "utf-16be", encoding.Utf16Be) ∷
    (codes "csunicode", encoding.Utf16Le) ∷
    (codes "iso-10646-ucs-2", encoding.Utf16Le) ∷
    (codes "ucs-2", encoding.Utf16Le) ∷
    (codes "unicode", encoding.Utf16Le) ∷
    (codes "unicodefeff", encoding.Utf16Le) ∷
    (codes "utf-16", encoding.Utf16Le) ∷
    (codes "utf-16le", encoding.Utf16Le) ∷
    (codes "x-user-defined", encoding.XUserDefined) ∷
    []
