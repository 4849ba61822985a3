mod ReadingAnswers
mod FieldOrders
mod WholeReading
