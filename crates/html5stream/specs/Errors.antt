-- What a tokenizer's refusal says of a source.
use Rattle.html5partial.specs.declared.error.TokenizerError.{TokenizerError}
use Rattle.html5partial.specs.declared.error.TokenizerError.TheVariants.{Memory, Sink, Failed}
use Rattle.html5stream.specs.declared.error.StreamError.{StreamError}
use Rattle.html5stream.specs.declared.error.StreamError.TheVariants as stream

-- no call here comes after a refused one, so none is `Failed`
abbrev pub stream_error : TokenizerError → StreamError
stream_error Memory = stream.Memory
stream_error Sink = stream.Sink
stream_error Failed = stream.Memory
