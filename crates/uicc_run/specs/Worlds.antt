-- What is seen of a run from outside, at its beginning and at its end: plain values of its source, its sink, its memory and its boxes.
use Rattle.std.specs.Prelude.{ℕ, Bool, List, Option, Some, None}
use Rattle.uicc_types.specs.Counts.{Meter}
use Rattle.byte_streams.specs.declared.streams.Sink.{Ghosts as SinkWords}
use Rattle.byte_streams.specs.declared.streams.Source.{Ghosts as SourceWords}
use Rattle.eeprom_model.specs.Bench.{new_bench}
use Rattle.eeprom_model.specs.declared.device.Eeprom.{Ghosts as EepromWords}
use Rattle.applet_trait.specs.Minds.{AppletState, minds_of}
use Rattle.applet_trait.specs.declared.applets.Applet.{Ghosts as AppletWords}
use Rattle.uicc_run.specs.Playing.{Leaves}
use Rattle.uicc_run.specs.Stores.{content_in, held_in}

-- a source, a sink, a memory and the boxes, as they are seen at one moment
pub record World : Type 0 where
  -- what the source has left to give, where it tells that, and how many failures it counted
  pub left : Option (List ℕ)
  pub source : ℕ
  -- what the sink has taken, where it tells that, and how many failures it counted
  pub taken : Option (List ℕ)
  pub sink : ℕ
  -- the bytes of the memory, where it tells them, and what can be read off its device: its counts, its power, its plans
  pub contents : Option (List ℕ)
  pub meter : Meter
  -- the minds in the boxes
  pub boxes : List (Option AppletState)

-- over a device
abbrev pub world : {R W E B : Type 0} → SourceWords R → SinkWords W → EepromWords E → AppletWords B
    → R → W → E → List (Option B) → World
world source_words sink_words device_words box_words source sink device boxes = record {
  left = source_words.left source;
  source = source_words.faults source;
  taken = sink_words.taken sink;
  sink = sink_words.faults sink;
  contents = device_words.contents device;
  meter = device_words.meter device;
  boxes = minds_of box_words.mind boxes;
}

-- the counts of a device with power to which nothing has happened, so that no plan waits for it either
abbrev pub new_meter : Meter
new_meter = (new_bench 0).meter

-- where nothing is told of a memory, since there is none yet or it is gone, and these minds are in the boxes
abbrev pub outside : {R W : Type 0} → SourceWords R → SinkWords W → R → W → List (Option AppletState) → World
outside source_words sink_words source sink boxes = record {
  left = source_words.left source;
  source = source_words.faults source;
  taken = sink_words.taken sink;
  sink = sink_words.faults sink;
  contents = None;
  meter = new_meter;
  boxes = boxes;
}

-- the same over a new memory of the bench, of so many bytes, with power and without a plan
abbrev pub over_bench : ℕ → World → World
over_bench size before = record before { contents = Some (new_bench size).bytes; meter = (new_bench size).meter }

-- What is seen of a run from outside at its end, of which the memory and the boxes may be gone: what the source and the sink counted before
-- it and after it, what the source has left of the script, what the sink has taken, and the status.
pub record Seen : Type 0 where
  pub source : ℕ
  pub source_then : ℕ
  pub sink : ℕ
  pub sink_then : ℕ
  pub left : Option (List ℕ)
  pub taken : Option (List ℕ)
  pub status : ℕ

-- that of a run with this status, by what is seen before it and after it
abbrev pub seen : ℕ → World → World → Seen
seen status before after = record {
  source = before.source;
  source_then = after.source;
  sink = before.sink;
  sink_then = after.sink;
  left = after.left;
  taken = after.taken;
  status = status;
}

-- the same of a device as of the one of the two stores that is made over it
abbrev pub inside : Bool → World → World
inside pages outer = record outer { contents = content_in pages outer.contents }

-- ---- what of it is left

-- over a device: what the one of the two stores stands for
abbrev pub left_in : Bool → World → Leaves
left_in pages after = record { held = held_in pages after.contents; taken = after.taken; meter = after.meter; boxes = after.boxes }
