-- The tables in the program are the Standard's indexes.
use Rattle.std.specs.Prelude.{◌≡◌, refl}
use Rattle.html5encodings.specs.IndexBig5.{index_big5}
use Rattle.html5encodings.specs.IndexEucKr.{index_euc_kr}
use Rattle.html5encodings.specs.IndexGb18030.{index_gb18030}
use Rattle.html5encodings.specs.IndexGb18030Ranges.{index_gb18030_ranges}
use Rattle.html5encodings.specs.IndexJis0208.{index_jis0208}
use Rattle.html5encodings.specs.IndexJis0212.{index_jis0212}
use Rattle.html5encodings.specs.declared.index_big5.TheConstants.{BIG5}
use Rattle.html5encodings.specs.declared.index_euc_kr.TheConstants.{EUC_KR}
use Rattle.html5encodings.specs.declared.index_gb18030.TheConstants.{GB18030}
use Rattle.html5encodings.specs.declared.index_gb18030_ranges.TheConstants.{GB18030_RANGES}
use Rattle.html5encodings.specs.declared.index_jis0208.TheConstants.{JIS0208}
use Rattle.html5encodings.specs.declared.index_jis0212.TheConstants.{JIS0212}

pub BIG5-is : BIG5 ≡ index_big5
unfolding index_big5
BIG5-is = refl

pub EUC_KR-is : EUC_KR ≡ index_euc_kr
unfolding index_euc_kr
EUC_KR-is = refl

pub GB18030-is : GB18030 ≡ index_gb18030
unfolding index_gb18030
GB18030-is = refl

pub GB18030_RANGES-is : GB18030_RANGES ≡ index_gb18030_ranges
unfolding index_gb18030_ranges
GB18030_RANGES-is = refl

pub JIS0208-is : JIS0208 ≡ index_jis0208
unfolding index_jis0208
JIS0208-is = refl

pub JIS0212-is : JIS0212 ≡ index_jis0212
unfolding index_jis0212
JIS0212-is = refl
