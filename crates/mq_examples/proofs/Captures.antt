-- The captures of the worked examples, as they are read.
use Rattle.mq_examples.proofs.Common.{drop, Captured, one_report, Form}
use Rattle.mq_pcap.specs.declared.{form.Endian.TheVariants.Little, form.Fraction.TheVariants.Microseconds, link_type.LinkType.TheVariants.Ethernet}

abbrev pub the_form : Form
the_form = record { order = Little; fraction = Microseconds; link = Ethernet }

abbrev pub the_packet : Captured
the_packet = record { stamp = 0; bytes = drop 40 one_report }
