-- The tables of the single-byte encodings are the Standard's indexes. By tools/gen/encodings.py.
use Rattle.std.specs.Prelude.{◌≡◌, refl}
use Rattle.html5encodings.specs.IndexSingleByte.{index_ibm866, index_iso_8859_2, index_iso_8859_3, index_iso_8859_4, index_iso_8859_5, index_iso_8859_6, index_iso_8859_7, index_iso_8859_8, index_iso_8859_10, index_iso_8859_13, index_iso_8859_14, index_iso_8859_15, index_iso_8859_16, index_koi8_r, index_koi8_u, index_macintosh, index_windows_874, index_windows_1250, index_windows_1251, index_windows_1252, index_windows_1253, index_windows_1254, index_windows_1255, index_windows_1256, index_windows_1257, index_windows_1258, index_x_mac_cyrillic}
use Rattle.html5encodings.specs.declared.index_single_byte.TheConstants.{IBM866, ISO_8859_2, ISO_8859_3, ISO_8859_4, ISO_8859_5, ISO_8859_6, ISO_8859_7, ISO_8859_8, ISO_8859_10, ISO_8859_13, ISO_8859_14, ISO_8859_15, ISO_8859_16, KOI8_R, KOI8_U, MACINTOSH, WINDOWS_874, WINDOWS_1250, WINDOWS_1251, WINDOWS_1252, WINDOWS_1253, WINDOWS_1254, WINDOWS_1255, WINDOWS_1256, WINDOWS_1257, WINDOWS_1258, X_MAC_CYRILLIC}

pub IBM866-is : IBM866 ≡ index_ibm866
unfolding index_ibm866
IBM866-is = refl

pub ISO_8859_2-is : ISO_8859_2 ≡ index_iso_8859_2
unfolding index_iso_8859_2
ISO_8859_2-is = refl

pub ISO_8859_3-is : ISO_8859_3 ≡ index_iso_8859_3
unfolding index_iso_8859_3
ISO_8859_3-is = refl

pub ISO_8859_4-is : ISO_8859_4 ≡ index_iso_8859_4
unfolding index_iso_8859_4
ISO_8859_4-is = refl

pub ISO_8859_5-is : ISO_8859_5 ≡ index_iso_8859_5
unfolding index_iso_8859_5
ISO_8859_5-is = refl

pub ISO_8859_6-is : ISO_8859_6 ≡ index_iso_8859_6
unfolding index_iso_8859_6
ISO_8859_6-is = refl

pub ISO_8859_7-is : ISO_8859_7 ≡ index_iso_8859_7
unfolding index_iso_8859_7
ISO_8859_7-is = refl

pub ISO_8859_8-is : ISO_8859_8 ≡ index_iso_8859_8
unfolding index_iso_8859_8
ISO_8859_8-is = refl

pub ISO_8859_10-is : ISO_8859_10 ≡ index_iso_8859_10
unfolding index_iso_8859_10
ISO_8859_10-is = refl

pub ISO_8859_13-is : ISO_8859_13 ≡ index_iso_8859_13
unfolding index_iso_8859_13
ISO_8859_13-is = refl

pub ISO_8859_14-is : ISO_8859_14 ≡ index_iso_8859_14
unfolding index_iso_8859_14
ISO_8859_14-is = refl

pub ISO_8859_15-is : ISO_8859_15 ≡ index_iso_8859_15
unfolding index_iso_8859_15
ISO_8859_15-is = refl

pub ISO_8859_16-is : ISO_8859_16 ≡ index_iso_8859_16
unfolding index_iso_8859_16
ISO_8859_16-is = refl

pub KOI8_R-is : KOI8_R ≡ index_koi8_r
unfolding index_koi8_r
KOI8_R-is = refl

pub KOI8_U-is : KOI8_U ≡ index_koi8_u
unfolding index_koi8_u
KOI8_U-is = refl

pub MACINTOSH-is : MACINTOSH ≡ index_macintosh
unfolding index_macintosh
MACINTOSH-is = refl

pub WINDOWS_874-is : WINDOWS_874 ≡ index_windows_874
unfolding index_windows_874
WINDOWS_874-is = refl

pub WINDOWS_1250-is : WINDOWS_1250 ≡ index_windows_1250
unfolding index_windows_1250
WINDOWS_1250-is = refl

pub WINDOWS_1251-is : WINDOWS_1251 ≡ index_windows_1251
unfolding index_windows_1251
WINDOWS_1251-is = refl

pub WINDOWS_1252-is : WINDOWS_1252 ≡ index_windows_1252
unfolding index_windows_1252
WINDOWS_1252-is = refl

pub WINDOWS_1253-is : WINDOWS_1253 ≡ index_windows_1253
unfolding index_windows_1253
WINDOWS_1253-is = refl

pub WINDOWS_1254-is : WINDOWS_1254 ≡ index_windows_1254
unfolding index_windows_1254
WINDOWS_1254-is = refl

pub WINDOWS_1255-is : WINDOWS_1255 ≡ index_windows_1255
unfolding index_windows_1255
WINDOWS_1255-is = refl

pub WINDOWS_1256-is : WINDOWS_1256 ≡ index_windows_1256
unfolding index_windows_1256
WINDOWS_1256-is = refl

pub WINDOWS_1257-is : WINDOWS_1257 ≡ index_windows_1257
unfolding index_windows_1257
WINDOWS_1257-is = refl

pub WINDOWS_1258-is : WINDOWS_1258 ≡ index_windows_1258
unfolding index_windows_1258
WINDOWS_1258-is = refl

pub X_MAC_CYRILLIC-is : X_MAC_CYRILLIC ≡ index_x_mac_cyrillic
unfolding index_x_mac_cyrillic
X_MAC_CYRILLIC-is = refl
