use Rattle.std.specs.Prelude.{◌≡◌, Some, refl}
use Rattle.html5encodings.specs.Encodings.{encoding_of}
use Rattle.html5encodings.specs.Labels.{labels, name_of}
use Rattle.html5encodings.specs.declared.encoding.Encoding.{Encoding}
use Rattle.html5encodings.specs.declared.encoding.Encoding.TheVariants as encoding
use Rattle.html5encodings.specs.declared.encoding.SingleByte.TheVariants as single
use Rattle.html5encodings.proofs.laws.names_are_labels.Goals as goal

named : (by : Encoding) → encoding_of (name_of by) ≡ Some by
unfolding labels
named encoding.Utf8 = refl
named (encoding.SingleByte single.Ibm866) = refl
named (encoding.SingleByte single.Iso8859_2) = refl
named (encoding.SingleByte single.Iso8859_3) = refl
named (encoding.SingleByte single.Iso8859_4) = refl
named (encoding.SingleByte single.Iso8859_5) = refl
named (encoding.SingleByte single.Iso8859_6) = refl
named (encoding.SingleByte single.Iso8859_7) = refl
named (encoding.SingleByte single.Iso8859_8) = refl
named (encoding.SingleByte single.Iso8859_8I) = refl
named (encoding.SingleByte single.Iso8859_10) = refl
named (encoding.SingleByte single.Iso8859_13) = refl
named (encoding.SingleByte single.Iso8859_14) = refl
named (encoding.SingleByte single.Iso8859_15) = refl
named (encoding.SingleByte single.Iso8859_16) = refl
named (encoding.SingleByte single.Koi8R) = refl
named (encoding.SingleByte single.Koi8U) = refl
named (encoding.SingleByte single.Macintosh) = refl
named (encoding.SingleByte single.Windows874) = refl
named (encoding.SingleByte single.Windows1250) = refl
named (encoding.SingleByte single.Windows1251) = refl
named (encoding.SingleByte single.Windows1252) = refl
named (encoding.SingleByte single.Windows1253) = refl
named (encoding.SingleByte single.Windows1254) = refl
named (encoding.SingleByte single.Windows1255) = refl
named (encoding.SingleByte single.Windows1256) = refl
named (encoding.SingleByte single.Windows1257) = refl
named (encoding.SingleByte single.Windows1258) = refl
named (encoding.SingleByte single.XMacCyrillic) = refl
named encoding.Gbk = refl
named encoding.Gb18030 = refl
named encoding.Big5 = refl
named encoding.EucJp = refl
named encoding.Iso2022Jp = refl
named encoding.ShiftJis = refl
named encoding.EucKr = refl
named encoding.Replacement = refl
named encoding.Utf16Be = refl
named encoding.Utf16Le = refl
named encoding.XUserDefined = refl

pub returns : goal.returns
returns c = named
