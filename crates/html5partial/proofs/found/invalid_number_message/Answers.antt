use Rattle.html5partial.proofs.FoundErrors.{six_digits_is, last_bits_alone}
use Rattle.html5partial.proofs.found.invalid_number_message.Goals as goal

pub returns : goal.returns
returns g c =
    let written = rw (c.in_radix.ensures, c.laid_out.ensures, six_digits_is c.args.low_bits) at c.in_ok-text.ensures.ok in
    rw (last_bits_alone c.args.low_bits c.ranges.low_bits.fits) written
