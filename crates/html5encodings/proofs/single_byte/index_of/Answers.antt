-- By tools/gen/encodings.py.
use Rattle.html5encodings.proofs.SingleByteTables.{IBM866-is, ISO_8859_2-is, ISO_8859_3-is, ISO_8859_4-is, ISO_8859_5-is, ISO_8859_6-is, ISO_8859_7-is, ISO_8859_8-is, ISO_8859_10-is, ISO_8859_13-is, ISO_8859_14-is, ISO_8859_15-is, ISO_8859_16-is, KOI8_R-is, KOI8_U-is, MACINTOSH-is, WINDOWS_874-is, WINDOWS_1250-is, WINDOWS_1251-is, WINDOWS_1252-is, WINDOWS_1253-is, WINDOWS_1254-is, WINDOWS_1255-is, WINDOWS_1256-is, WINDOWS_1257-is, WINDOWS_1258-is, X_MAC_CYRILLIC-is}
use Rattle.html5encodings.proofs.single_byte.index_of.Goals as goal

pub returns-in-Ibm866 : goal.returns-in-Ibm866
returns-in-Ibm866 c = rw c.in-Ibm866.is IBM866-is

pub returns-in-Iso8859_2 : goal.returns-in-Iso8859_2
returns-in-Iso8859_2 c = rw c.in-Iso8859_2.is ISO_8859_2-is

pub returns-in-Iso8859_3 : goal.returns-in-Iso8859_3
returns-in-Iso8859_3 c = rw c.in-Iso8859_3.is ISO_8859_3-is

pub returns-in-Iso8859_4 : goal.returns-in-Iso8859_4
returns-in-Iso8859_4 c = rw c.in-Iso8859_4.is ISO_8859_4-is

pub returns-in-Iso8859_5 : goal.returns-in-Iso8859_5
returns-in-Iso8859_5 c = rw c.in-Iso8859_5.is ISO_8859_5-is

pub returns-in-Iso8859_6 : goal.returns-in-Iso8859_6
returns-in-Iso8859_6 c = rw c.in-Iso8859_6.is ISO_8859_6-is

pub returns-in-Iso8859_7 : goal.returns-in-Iso8859_7
returns-in-Iso8859_7 c = rw c.in-Iso8859_7.is ISO_8859_7-is

pub returns-in-Iso8859_8 : goal.returns-in-Iso8859_8
returns-in-Iso8859_8 c = rw c.in-Iso8859_8.is ISO_8859_8-is

pub returns-in-Iso8859_8I : goal.returns-in-Iso8859_8I
returns-in-Iso8859_8I c = rw c.in-Iso8859_8I.is ISO_8859_8-is

pub returns-in-Iso8859_10 : goal.returns-in-Iso8859_10
returns-in-Iso8859_10 c = rw c.in-Iso8859_10.is ISO_8859_10-is

pub returns-in-Iso8859_13 : goal.returns-in-Iso8859_13
returns-in-Iso8859_13 c = rw c.in-Iso8859_13.is ISO_8859_13-is

pub returns-in-Iso8859_14 : goal.returns-in-Iso8859_14
returns-in-Iso8859_14 c = rw c.in-Iso8859_14.is ISO_8859_14-is

pub returns-in-Iso8859_15 : goal.returns-in-Iso8859_15
returns-in-Iso8859_15 c = rw c.in-Iso8859_15.is ISO_8859_15-is

pub returns-in-Iso8859_16 : goal.returns-in-Iso8859_16
returns-in-Iso8859_16 c = rw c.in-Iso8859_16.is ISO_8859_16-is

pub returns-in-Koi8R : goal.returns-in-Koi8R
returns-in-Koi8R c = rw c.in-Koi8R.is KOI8_R-is

pub returns-in-Koi8U : goal.returns-in-Koi8U
returns-in-Koi8U c = rw c.in-Koi8U.is KOI8_U-is

pub returns-in-Macintosh : goal.returns-in-Macintosh
returns-in-Macintosh c = rw c.in-Macintosh.is MACINTOSH-is

pub returns-in-Windows874 : goal.returns-in-Windows874
returns-in-Windows874 c = rw c.in-Windows874.is WINDOWS_874-is

pub returns-in-Windows1250 : goal.returns-in-Windows1250
returns-in-Windows1250 c = rw c.in-Windows1250.is WINDOWS_1250-is

pub returns-in-Windows1251 : goal.returns-in-Windows1251
returns-in-Windows1251 c = rw c.in-Windows1251.is WINDOWS_1251-is

pub returns-in-Windows1252 : goal.returns-in-Windows1252
returns-in-Windows1252 c = rw c.in-Windows1252.is WINDOWS_1252-is

pub returns-in-Windows1253 : goal.returns-in-Windows1253
returns-in-Windows1253 c = rw c.in-Windows1253.is WINDOWS_1253-is

pub returns-in-Windows1254 : goal.returns-in-Windows1254
returns-in-Windows1254 c = rw c.in-Windows1254.is WINDOWS_1254-is

pub returns-in-Windows1255 : goal.returns-in-Windows1255
returns-in-Windows1255 c = rw c.in-Windows1255.is WINDOWS_1255-is

pub returns-in-Windows1256 : goal.returns-in-Windows1256
returns-in-Windows1256 c = rw c.in-Windows1256.is WINDOWS_1256-is

pub returns-in-Windows1257 : goal.returns-in-Windows1257
returns-in-Windows1257 c = rw c.in-Windows1257.is WINDOWS_1257-is

pub returns-in-Windows1258 : goal.returns-in-Windows1258
returns-in-Windows1258 c = rw c.in-Windows1258.is WINDOWS_1258-is

pub returns-in-XMacCyrillic : goal.returns-in-XMacCyrillic
returns-in-XMacCyrillic c = rw c.in-XMacCyrillic.is X_MAC_CYRILLIC-is
