pub mod StepReadings
