-- The underlying writer of a sink.
use Rattle.pv_io.specs.declared.disk.StdSink as sinks

abbrev pub writer_of : {W : Type 0} → sinks.StdSink W → W
writer_of s = s.writer
