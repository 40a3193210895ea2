-- The measure of `xml_repeats::repeats`: the number of attributes.
use Rattle.xml_repeats.proofs.+repeats.Given as goal

abbrev pub decreases-repeats : goal.decreases-repeats
decreases-repeats l = l.count
