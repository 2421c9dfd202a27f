-- What a decoder's error says of a source.
use Rattle.utf8_pieces.specs.declared.error.DecodeError.{DecodeError}
use Rattle.utf8_pieces.specs.declared.error.DecodeError.TheVariants.{NotUtf8, Memory}
use Rattle.html5stream.specs.declared.error.StreamError.{StreamError}
use Rattle.html5stream.specs.declared.error.StreamError.TheVariants as stream

abbrev pub of_decoder : DecodeError → StreamError
of_decoder (NotUtf8 place) = stream.NotUtf8 place
of_decoder Memory = stream.Memory
