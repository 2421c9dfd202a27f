use Rattle.html5feed.proofs.QuietReading.{takes-none, takes-nothing, takes-quietly, stops-quietly}
use Rattle.html5feed.proofs.reading.read_waiting_quietly.Goals as goal

pub returns-then-is_empty-clause-reads : goal.returns-then-is_empty-clause-reads
returns-then-is_empty-clause-reads g c = takes-none _ c.args.rules.now c.args.position.now c.args.queue.now

pub returns-in-Ok-eq0-clause-reads : goal.returns-in-Ok-eq0-clause-reads
returns-in-Ok-eq0-clause-reads g c =
    let read = c.in-Ok-eq0.ensures in
    takes-nothing _ c.args.rules.now c.args.position.now c.read_quietly.new.self c.args.queue.now (read.none c.in-Ok-eq0.field-0-test) read.last read.input

pub returns-in-Ok-clause-reads : goal.returns-in-Ok-clause-reads
returns-in-Ok-clause-reads g c =
    let read = rw c.front_text-text.ensures at c.in-Ok.ensures in
    takes-quietly _ c.args.rules.now c.args.position.now c.read_quietly.new.self c.args.queue.now c.skip.new.self c.in-Ok.bytes c.skip.ensures read.quiet read.none read.last read.input

pub returns-in-Err-clause-reads : goal.returns-in-Err-clause-reads
returns-in-Err-clause-reads g c =
    let stops = rw c.front_text-text.ensures at c.in-Err.ensures.refused in
    stops-quietly c.args.rules.now c.args.position.now c.read_quietly.new.self c.args.queue.now c.skip-in-Err.new.self _ c.skip-in-Err.ensures stops

pub returns-then-as_bytes-eq38-clause-reads : goal.returns-then-as_bytes-eq38-clause-reads
returns-then-as_bytes-eq38-clause-reads g c = takes-none _ c.args.rules.now c.args.position.now c.args.queue.now
