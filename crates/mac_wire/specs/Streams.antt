-- What devices over readers and writers are made of, for clauses that cannot name their fields.
use Rattle.mac_wire.specs.declared.reader_source.ReaderSource.{ReaderSource}
use Rattle.mac_wire.specs.declared.writer_sink.WriterSink.{WriterSink}

-- the reader of a source
abbrev pub reader_of : {R : Type 0} → ReaderSource R → R
reader_of s = s.reader

-- the writer of a sink
abbrev pub writer_of : {W : Type 0} → WriterSink W → W
writer_of s = s.writer
